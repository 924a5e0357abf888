use mathlib.Core.Path.{◌≡◌, refl}
use native.Mathlib.Omega.{arith}
use Prim.Native.Nat.{◌≤◌, ◌<◌}
use lib.ListN.{length, take, length-take}
use Rattle.touch_state.specs.View.{device_id}
use Rattle.touches.proofs.Places.{first_of}
use Rattle.touches.proofs.Upsert.{place_le}
use Rattle.touch_state.proofs.Known.{unknown, touched_miss, touched_full}
use Rattle.touch_state.proofs.devices.add.Goals as goal

pub returns-then-n-ge-MAX_DEVICES : goal.returns-then-n-ge-MAX_DEVICES
returns-then-n-ge-MAX_DEVICES c =
    let ds = c.args.ds in
    let l : length ds.places ≡ 4 = c.well_formed.0.1.1.1.0.1.0.1 in
    let m : length (take ds.count ds.places) ≤ 4 = omega (arith, length-take ds.count ds.places) in
    touched_full _ _ ds.count ds.places _ _ refl (unknown _ _ ds.count ds.places refl m c.requires) (omega arith)

pub put_in-requires : goal.put_in-requires
put_in-requires c =
    let ds = c.args.ds in
    let l : length ds.places ≡ 4 = c.well_formed.0.1.1.1.0.1.0.1 in
    let e = rw c.known.ensures.places at c.place_of-at.ensures in
    (rw (e, c.len-n.ensures) (place_le device_id _ _), omega arith)

pub returns : goal.returns
returns c =
    let ds = c.args.ds in
    let l : length ds.places ≡ 4 = c.well_formed.0.1.1.1.0.1.0.1 in
    let m : length (take ds.count ds.places) ≤ 4 = omega (arith, length-take ds.count ds.places) in
    let e = rw c.known.ensures.places at c.place_of-at.ensures in
    let n : length (take ds.count ds.places) < 4 = omega arith in
    rw (c.put_in.ensures, first_of _ ds.count ds.places c.len-n.ensures)
    (touched_miss _ _ ds.count ds.places _ _ e _ (unknown _ _ ds.count ds.places e m c.requires) n c.first-device.ensures)
