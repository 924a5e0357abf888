-- The declared types of src/, by short names.
pub use Rattle.emath.specs.declared.pos2.Pos2.{Pos2}
pub use Rattle.emath.specs.declared.vec2.Vec2.{Vec2}
pub use Rattle.emath.specs.declared.rect.Rect.{Rect}
