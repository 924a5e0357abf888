-- Group 12 of an image, the touch devices: its description, and the devices as its value and back.
use Rattle.std.specs.Prelude.{ℕ, List, map}
use Rattle.model.specs.Touch.{TouchState}
use Rattle.image.specs.Codes.{Code, both, ranked, El, In, Each}
use Rattle.image_touches.specs.Touches.{ascending, touch_code, touches_code, touches_el, touches_of}
use Rattle.image_gesture.specs.Gesture.{gesture_code, gesture_el, gesture_of}

-- what belongs to a device's id: its touches, as many as a form holds, and its gesture
abbrev pub device_code : ℕ → Code
device_code touches = both (touches_code touches) gesture_code

-- "device .. ids out of ascending order or .. twice": by ascending id; the most devices, and the most touches of one
abbrev pub devices_code : ℕ → ℕ → Code
devices_code devices touches = ranked 12 devices ascending (device_code touches)

abbrev pub DeviceEl : Type 0
DeviceEl = ℕ × (List (ℕ × El touch_code) × El gesture_code)

-- a device as a value, and back
abbrev pub device_el : TouchState → DeviceEl
device_el d = (d.device_id, (touches_el d.active_touches, gesture_el d.gesture_state))

abbrev pub device_of : DeviceEl → TouchState
device_of v = record { device_id = v.0; active_touches = touches_of v.1.0; gesture_state = gesture_of v.1.1 }

-- the devices as a value, and back
unfoldable pub devices_el : List TouchState → List DeviceEl
devices_el vs = map device_el vs

unfoldable pub devices_of : List DeviceEl → List TouchState
devices_of vs = map device_of vs

-- in range but for the order of the ids and the number of touches, which are the state's
abbrev pub DeviceIn : DeviceEl → Type 0
DeviceIn v = Each (λ (u : ℕ × El touch_code). In touch_code u.1) v.1.0 × In gesture_code v.1.1
