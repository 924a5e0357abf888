-- A device as the model's, and the model's touch event of it, as far as the touches fit.
use Rattle.model.specs.Types.{TouchPhase, ActiveTouch}
use Rattle.model.specs.Touch.{TouchState}
use Rattle.touches.specs.Touches.{list, on_touch_if_room}
use Rattle.touch_device.specs.declared.Device.{Device}

-- a device as the model's
abbrev pub device_view : Device → TouchState
device_view d = record { device_id = d.id; active_touches = list d.touches; gesture_state = d.gesture_state }

-- `touch_device`, where a touch that does not fit is left out: the pass has refused it before
unfoldable pub fits_device : TouchPhase → ActiveTouch → TouchState → TouchState
fits_device ph t v = record { device_id = v.device_id; active_touches = on_touch_if_room ph t v.active_touches; gesture_state = v.gesture_state }
