use Prim.Native.Nat.{◌≤◌, ◌+◌}
use mathlib.Core.Path.{◌≡◌}
use mathlib.Core.List.{map}
use lib.ListN.{length, take}
use Rattle.data.specs.Limits.{max_touches}
use Rattle.touch_device.specs.View.{device_view}
use Rattle.image.specs.Places.{value_at, rows_at, key_at}
use Rattle.image_devices.specs.Devices.{device_code, devices_of}
use Rattle.image_devices.proofs.devices_at.Given as goal

abbrev pub invariant-loop-i : goal.invariant-loop-i
invariant-loop-i l = (l.i ≤ l.n) × (length l.ds.places ≡ 4) × (map device_view (take l.i l.ds.places) ≡ devices_of (rows_at 86 (key_at (value_at (device_code max_touches))) l.i l.words (l.at + 1)))
