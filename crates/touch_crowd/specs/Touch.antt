-- A touch event by its parts.
use Rattle.std.specs.Prelude.{Option, None, Some}
use Rattle.model.specs.Types.{Event, Key, ModifiersChanged, PointerMoved, MouseMoved, Button, PointerGone, Zoom, Rotate, Touch, MouseWheel, WindowFocused, Other}
use Rattle.touch_crowd.specs.declared.touch.TouchEvent.{TouchEvent}

-- of no other event
unfoldable pub touch_of : Event → Option TouchEvent
touch_of (Key k b) = None
touch_of (ModifiersChanged m) = None
touch_of (PointerMoved v) = None
touch_of (MouseMoved v) = None
touch_of (Button v b d m) = None
touch_of PointerGone = None
touch_of (Zoom x) = None
touch_of (Rotate x) = None
touch_of (Touch d i ph p f) = Some (record { device_id = d; phase = ph; touch = record { id = i; pos = p; force = f } })
touch_of (MouseWheel u v ph s m) = None
touch_of (WindowFocused b) = None
touch_of Other = None
