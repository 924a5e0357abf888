use mathlib.Core.Path.{◌≡◌, ◌∙◌}
use Prim.Native.Nat.{◌<◌}
use native.Mathlib.Omega.{arith}
use lib.ListN.{length, take, length-take, length-set}
use Rattle.touches.proofs.Places.{first_of}
use Rattle.touch_ends.proofs.Ended.{ended_start, ended_step, ended_end}
use Rattle.touch_ends.proofs.ends.end_devices.Goals as goal

pub loop-i-preserved : goal.loop-i-preserved
loop-i-preserved c =
    let v = c.loop-i.invariant in
    let h : c.loop-i.i < c.len-n.result = omega arith in
    (rw length-set v.0, rw length-set v.1, v.2, ended_step _ _ _ _ _ _ _ _ c.added_or_removed_touches-added_or_removed.result h v.0 c.added_or_removed_touches-added_or_removed.ensures c.end_pass.ensures ∙ v.3)

pub returns : goal.returns
returns c =
    let ds = c.args.ds in
    let out = c.loop-i.out in
    let len = c.len-n in
    let v = c.loop-i.invariant in
    let l : length ds.places ≡ 4 = c.well_formed.0.1.1.1.0.1.0.1 in
    let n : len.result ≡ length (take ds.count out.places) = omega (arith, len.ensures, length-take ds.count ds.places, length-take ds.count out.places) in
    rw (v.2, ← first_of len.result ds.count out.places n, ← first_of len.result ds.count ds.places len.ensures) (ended_end _ _ _ len.result c.loop-i.i _ (omega arith) (omega arith) v.0 ∙ (v.3 ∙ ended_start _ _ _ _ _))
