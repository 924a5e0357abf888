-- The declared types of `hit_lists`, by short names.
pub use Rattle.hit_lists.specs.declared.Hit.{Hit}
pub use Rattle.data.specs.declared.refusal.InteractRefusal.{InteractRefusal}
