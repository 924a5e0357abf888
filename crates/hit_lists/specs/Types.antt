-- The declared types of src/, by short names.
pub use Rattle.hit_lists.specs.declared.Hit.{Hit}
