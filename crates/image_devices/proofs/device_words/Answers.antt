use Prim.Native.Nat.{◌≤◌}
use mathlib.Core.Path.{refl, sym}
use lib.ListN.{length}
use Rattle.data.specs.Limits.{max_touches}
use Rattle.touches.specs.Touches.{list}
use Rattle.touch_device.specs.View.{device_view}
use Rattle.image_touches.proofs.Walk.{len_le}
use Rattle.image_devices.proofs.Rows.{entry_length}
use Rattle.image_devices.proofs.device_words.Goals as goal

pub returns : goal.returns
returns c =
    let t = c.args.d.touches in
    let few : length (list t) ≤ max_touches = len_le _ t.count t.places (c.well_formed.0.1.1.1.0.1.1.1.0.1.0.1) refl in
    (refl, sym (entry_length (device_view c.args.d) few))
