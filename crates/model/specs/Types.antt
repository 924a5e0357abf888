-- The types of `emath` and `data` that the model speaks of, by short names. An Option is the library's.
pub use Rattle.emath.specs.declared.pos2.Pos2.{Pos2}
pub use Rattle.emath.specs.declared.vec2.Vec2.{Vec2}
pub use Rattle.emath.specs.declared.rect.Rect.{Rect}
pub use Rattle.data.specs.declared.modifiers.Modifiers.{Modifiers}
pub use Rattle.data.specs.declared.layers.LayerId.{LayerId}
pub use Rattle.data.specs.declared.widget.WidgetRect.{WidgetRect}
pub use Rattle.data.specs.declared.options.InputOptions.{InputOptions}
-- pointer
pub use Rattle.data.specs.declared.pointer.PointerButton.{PointerButton}
pub use Rattle.data.specs.declared.pointer.PointerButton.TheVariants.{Primary, Secondary, Middle, Extra1, Extra2}
pub use Rattle.data.specs.declared.pointer.ButtonsDown.{ButtonsDown}
pub use Rattle.data.specs.declared.pointer.Click.{Click}
pub use Rattle.data.specs.declared.pointer.PointerEvent.{PointerEvent}
pub use Rattle.data.specs.declared.pointer.PointerEvent.TheVariants.{Moved, Pressed, Released}
-- mouse wheel
pub use Rattle.data.specs.declared.mouse_wheel.MouseWheelUnit.{MouseWheelUnit}
pub use Rattle.data.specs.declared.mouse_wheel.MouseWheelUnit.TheVariants.{Point, Line, Page}
pub use Rattle.data.specs.declared.mouse_wheel.MouseWheelSource.{MouseWheelSource}
pub use Rattle.data.specs.declared.mouse_wheel.MouseWheelSource.TheVariants.{Unknown, Wheel, Trackpad, Momentum}
pub use Rattle.data.specs.declared.mouse_wheel.Status.{Status}
pub use Rattle.data.specs.declared.mouse_wheel.Status.TheVariants.{Static, Smoothing, InTouch}
pub use Rattle.data.specs.declared.mouse_wheel.WheelState.{WheelState}
-- touch
pub use Rattle.data.specs.declared.touch.TouchPhase.{TouchPhase}
pub use Rattle.data.specs.declared.touch.TouchPhase.TheVariants.{Start, Move, End, Cancel}
pub use Rattle.data.specs.declared.touch.ActiveTouch.{ActiveTouch}
pub use Rattle.data.specs.declared.touch.PinchType.{PinchType}
pub use Rattle.data.specs.declared.touch.PinchType.TheVariants.{Horizontal, Vertical, Proportional}
pub use Rattle.data.specs.declared.touch.DynGestureState.{DynGestureState}
pub use Rattle.data.specs.declared.touch.GestureState.{GestureState}
pub use Rattle.data.specs.declared.touch.Rotation.{Rotation}
pub use Rattle.data.specs.declared.touch.Rotation.TheVariants.{Radians, Headings}
pub use Rattle.data.specs.declared.touch.MultiTouchInfo.{MultiTouchInfo}
-- events
pub use Rattle.data.specs.declared.event.Event.{Event}
pub use Rattle.data.specs.declared.event.Event.TheVariants.{Key, ModifiersChanged, PointerMoved, MouseMoved, PointerButton as Button, PointerGone, Zoom, Rotate, Touch, MouseWheel, WindowFocused, Other}
-- refusals
pub use Rattle.data.specs.declared.refusal.PassRefusal.{PassRefusal}
pub use Rattle.data.specs.declared.refusal.PassRefusal.TheVariants.{Malformed, OutsideDomain, TimeBelow, TooManyEvents, NoPlace}
pub use Rattle.data.specs.declared.refusal.InsertRefusal.{InsertRefusal}
pub use Rattle.data.specs.declared.refusal.InsertRefusal.TheVariants as insertion
pub use Rattle.data.specs.declared.refusal.InteractRefusal.{InteractRefusal}
pub use Rattle.data.specs.declared.refusal.InteractRefusal.TheVariants as interaction
