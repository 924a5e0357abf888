-- The devices read from the value that stands for them; every value in range stands for some, and devices in order are in range. Assumes nothing.
use Prim.Native.Nat.{ℕ, ◌≤◌}
use mathlib.Core.Path.{◌≡◌, refl, sym, ap₂, subst}
use mathlib.Core.List.{List, [], ◌∷◌, map}
use lib.Dec.{T, leb, le→leb}
use lib.ListN.{length, length-map}
use Rattle.data.specs.Limits.{max_devices, max_touches}
use Rattle.model.specs.Touch.{TouchState, AllTouchesWithin, InOrder}
use Rattle.image.specs.Codes.{In, Each}
use Rattle.image.specs.Places.{Tested}
use Rattle.image.proofs.Lists.{keyed_of, keyed_tested, keyed_each}
use Rattle.image_touches.specs.Touches.{ascending, touch_el, touches_el}
use Rattle.image_touches.proofs.Walk.{in_touches}
use Rattle.image_touches.proofs.Trip.{touches_back, touches_forth, ascending_tested, tested_ascending, most, touches_ascend, touches_most}
use Rattle.image_gesture.specs.Gesture.{gesture_code}
use Rattle.image_gesture.proofs.Back.{gesture_back, gesture_forth}
use Rattle.image_devices.specs.Devices.{device_code, devices_code, DeviceEl, device_el, device_of, devices_el, devices_of, DeviceIn}

device_back : (v : TouchState) → device_of (device_el v) ≡ v
device_back v = rw (touches_back v.active_touches, gesture_back v.gesture_state)

pub devices_back : (vs : List TouchState) → devices_of (devices_el vs) ≡ vs
unfolding devices_of devices_el
devices_back [] = refl
devices_back (v ∷ vs) = ap₂ (λ (x : TouchState) (xs : List TouchState). x ∷ xs) (device_back v) (devices_back vs)

-- what the state has of a device's touches: they are no more than the most, and their ids rise
abbrev pub Held : TouchState → Type 0
Held v = (length v.active_touches ≤ max_touches) × Tested ascending [] (touches_el v.active_touches)

each_in : (vs : List TouchState) → Each DeviceIn (map device_el vs) → Each Held vs → Each (λ (v : DeviceEl). In (device_code max_touches) v.1) (map device_el vs)
each_in [] e h = tt
each_in (v ∷ vs) e h = ((in_touches v.active_touches h.0.0 e.0.0 h.0.1, e.0.1), each_in vs e.1 h.1)

-- in range, where the ids rise: the devices' and those of each one's touches
pub in_devices : (vs : List TouchState) → length vs ≤ max_devices → Each DeviceIn (devices_el vs) → Each Held vs → Tested ascending [] (devices_el vs) → In (devices_code max_devices max_touches) (devices_el vs)
unfolding devices_el
in_devices vs n e h t = (
  subst (λ (k : ℕ). T (leb k max_devices)) (sym (length-map vs device_el)) (le→leb (length vs) max_devices n),
  keyed_of ascending (In (device_code max_touches)) [] (map device_el vs) t (each_in vs e h),
)

-- devices in order are so
each_held : (vs : List TouchState) → AllTouchesWithin vs → Each Held vs
unfolding touches_el
each_held [] h = tt
each_held (v ∷ vs) h = ((h.0.limit, ascending_tested touch_el v.active_touches h.0.ascend), each_held vs h.1)

pub in_order_devices : (vs : List TouchState) → InOrder vs → Each DeviceIn (devices_el vs) → In (devices_code max_devices max_touches) (devices_el vs)
unfolding devices_el
in_order_devices vs o e = in_devices vs o.limit e (each_held vs o.touches) (ascending_tested device_el vs o.ascend)

-- ---- and forth
device_forth : (v : DeviceEl) → In gesture_code v.1.1 → device_el (device_of v) ≡ v
device_forth v h = rw (touches_forth v.1.0, gesture_forth v.1.1 h)

module _ (vs : List DeviceEl) (h : In (devices_code max_devices max_touches) vs) where
  abbrev EachIn : List DeviceEl → Type 0
  EachIn us = Each (λ (u : DeviceEl). In (device_code max_touches) u.1) us

  each_device : EachIn vs
  each_device = keyed_each ascending (In (device_code max_touches)) [] vs h.1

  pub devices_forth : devices_el (devices_of vs) ≡ vs
  unfolding devices_el devices_of
  devices_forth = go vs each_device
    where
      go : (us : List DeviceEl) → EachIn us → map device_el (map device_of us) ≡ us
      go [] e = refl
      go (u ∷ us) e = ap₂ (λ (x : DeviceEl) (xs : List DeviceEl). x ∷ xs) (device_forth u e.0.1) (go us e.1)

  -- and those are in order
  pub devices_in_order : InOrder (devices_of vs)
  unfolding devices_el devices_of
  devices_in_order =
      record {
        ascend = tested_ascending device_el (devices_of vs) (subst (Tested ascending []) (sym devices_forth) (keyed_tested ascending (In (device_code max_touches)) [] vs h.1));
        limit = most device_of vs max_devices h.0;
        touches = go vs each_device;
      }
    where
      go : (us : List DeviceEl) → EachIn us → AllTouchesWithin (map device_of us)
      go [] e = tt
      go (u ∷ us) e = (record { ascend = touches_ascend u.1.0 e.0.0; limit = touches_most u.1.0 e.0.0 }, go us e.1)
