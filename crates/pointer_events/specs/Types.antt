-- The declared types of src/, by short names.
pub use Rattle.pointer_events.specs.declared.Entry.{Entry}
pub use Rattle.data.specs.declared.pointer.PointerEvent.{PointerEvent}
pub use Rattle.pointer_events.specs.declared.EventKind.{EventKind}
pub use Rattle.pointer_events.specs.declared.EventKind.TheVariants as kind
