-- The declared types of src/ and of emath, by short names.
pub use Rattle.emath.specs.declared.pos2.Pos2.{Pos2}
pub use Rattle.emath_history.specs.declared.history.History.{History}
