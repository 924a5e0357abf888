use Prim.Native.Nat.{◌+◌}
use mathlib.Core.Path.{◌≡◌, ◌∙◌}
use native.Mathlib.Numerals.{add-one}
use native.Mathlib.Omega.{arith}
use lib.ListN.{length, length-set}
use Rattle.image.specs.Codes.{size}
use Rattle.image.specs.Places.{bad_at, value_at}
use Rattle.image.proofs.Lists.{or_else_none}
use Rattle.image_devices.proofs.Rows.{read_none, read_more, sound_touches}
use Rattle.image_devices.proofs.devices_at.Goals as goal

pub loop-i-init : goal.loop-i-init
loop-i-init c =
    let t : length c.none-ds.result.places ≡ 4 = c.none-ds.type_inv.1.1.1.0.1.0.1 in
    let a = c.args in
    (omega arith, t, read_none a.words.now (a.at + 1) c.none-ds.result.places)

pub device_at-d-requires : goal.device_at-d-requires
device_at-d-requires c =
    let l = c.loop-i in
    (omega arith, sound_touches c.args.words.now c.args.at _ l.i c.requires.1 c.count-n.ensures.1 c.loop-i-test.true)

pub loop-i-preserved : goal.loop-i-preserved
loop-i-preserved c =
    let l = c.loop-i in
    let a = c.args in
    (omega arith, rw length-set l.invariant.1, read_more l.ds.places a.words.now (a.at + 1) l.i _ (omega arith) l.invariant.2 c.device_at-d.ensures)

pub returns : goal.returns
unfolding bad_at value_at size
returns c =
    let l = c.loop-i in
    let k = c.count-n.ensures in
    let e : l.i ≡ c.count-n.result = omega arith in
    let n = k.1 (or_else_none _ _ c.requires.1).0 in
    (rw e at l.invariant.2) ∙ rw (n, add-one)
