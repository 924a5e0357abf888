use Prim.Native.Nat.{◌<◌, ◌≤◌}
use mathlib.Core.Path.{◌≡◌, sym, ◌∙◌}
use native.Mathlib.Omega.{arith}
use lib.ListN.{length}
use Rattle.data.specs.Limits.{max_devices}
use Rattle.touches.proofs.Upsert.{at_lt}
use Rattle.touches.specs.Touches.{place, is_at}
use Rattle.touch_state.specs.View.{device_id, known, known_at}
use Rattle.touch_state.proofs.Ids.{unwrapped, below_some}
use Rattle.touch_state.proofs.devices.known_at.Goals as goal

pub returns : goal.returns
unfolding known_at
returns c =
    let ds = c.args.ds.now in
    let us = c.known-us.ensures.places in
    let most : length (known ds) ≤ max_devices = rw us at c.known-us.ensures.within in
    let is = rw us at c.is_at.ensures in
    record {
      place = rw (c.then_some.ensures, is, rw us at c.place_of-i.ensures) (unwrapped (is_at device_id (place device_id c.args.id (known ds)) c.args.id (known ds)) (place device_id c.args.id (known ds)) max_devices);
      below =
          rw c.then_some.ensures
          (below_some _ _ max_devices
          (λ q. let n = at_lt device_id _ _ _ (sym is ∙ q) in omega (arith, n, most)));
    }
