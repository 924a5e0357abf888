-- The declared types of `data` and of src/ that the feed speaks of, by short names.
pub use Rattle.emath.specs.declared.pos2.Pos2.{Pos2}
pub use Rattle.emath.specs.declared.vec2.Vec2.{Vec2}
pub use Rattle.data.specs.declared.modifiers.Modifiers.{Modifiers}
pub use Rattle.data.specs.declared.pointer.PointerButton.{PointerButton}
pub use Rattle.data.specs.declared.pointer.PointerButton.TheVariants.{Primary, Secondary, Middle, Extra1, Extra2}
pub use Rattle.data.specs.declared.mouse_wheel.MouseWheelUnit.{MouseWheelUnit}
pub use Rattle.data.specs.declared.mouse_wheel.MouseWheelUnit.TheVariants.{Point, Line, Page}
pub use Rattle.data.specs.declared.mouse_wheel.MouseWheelSource.{MouseWheelSource}
pub use Rattle.data.specs.declared.mouse_wheel.MouseWheelSource.TheVariants.{Unknown, Wheel, Trackpad, Momentum}
pub use Rattle.data.specs.declared.touch.TouchPhase.{TouchPhase}
pub use Rattle.data.specs.declared.touch.TouchPhase.TheVariants.{Start, Move, End, Cancel}
pub use Rattle.data.specs.declared.event.Event.{Event}
pub use Rattle.data.specs.declared.event.Event.TheVariants.{Key, ModifiersChanged, PointerMoved, MouseMoved, PointerButton as Button, PointerGone, Zoom, Rotate, Touch, MouseWheel, WindowFocused, Other}
pub use Rattle.data.specs.declared.refusal.PassRefusal.{PassRefusal}
pub use Rattle.data.specs.declared.refusal.PassRefusal.TheVariants.{Malformed, OutsideDomain, TimeBelow, TooManyEvents, NoPlace}
pub use Rattle.feed.specs.declared.found.FeedError.{FeedError}
pub use Rattle.feed.specs.declared.found.FeedError.TheVariants as fault
