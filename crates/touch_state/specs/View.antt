-- The devices as the model's, and the model's touch event, as far as the devices and their touches fit.
use Rattle.std.specs.Prelude.{ℕ, cond, List, map, leb, length, take}
use Rattle.data.specs.Limits.{max_devices}
use Rattle.model.specs.Types.{TouchPhase, ActiveTouch}
use Rattle.model.specs.Touch.{TouchState, at_device}
use Rattle.touches.specs.Touches.{place, is_at}
use Rattle.touch_device.specs.declared.Device.{Device}
use Rattle.touch_device.specs.View.{device_view, fits_device}
use Rattle.touch_state.specs.declared.devices.Devices.{Devices}

-- the devices that are known: as records, and as the model's
abbrev pub known : Devices → List Device
known ds = take ds.count ds.places

abbrev pub view : Devices → List TouchState
view ds = map device_view (known ds)

abbrev pub device_id : Device → ℕ
device_id d = d.id

-- the place of a device that is known, or the number of places
unfoldable pub known_at : ℕ → List Device → ℕ
known_at d us =
    let i = place device_id d us in
    cond (is_at device_id i d us) i max_devices

-- `touch_event` of a touch, where a device or a touch that does not fit is left out: the pass has refused it before
unfoldable pub fits_touch : ℕ → TouchPhase → ActiveTouch → List TouchState → List TouchState
fits_touch d ph t vs =
    let new = at_device d (fits_device ph t) vs in
    cond (leb (length new) max_devices) new vs
