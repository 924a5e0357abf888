use mathlib.Core.Path.{◌∙◌}
use lib.Ieee.{of_bits}
use Rattle.touches.proofs.Places.{first_of}
use Rattle.gesture.proofs.Turns.{distance_step, away_step, distance_end, away_end}
use Rattle.gesture.proofs.spread.Goals as goal

pub loop-t-preserved : goal.loop-t-preserved
loop-t-preserved c =
    let h = c.loop-t-test.true in
    let a = c.loop-t.invariant in
    (rw c.distance-distance.ensures (distance_step _ _ _ h _ _) ∙ a.0, rw (c.add-abs_distance2.ensures, c.abs-away.ensures, c.sub.ensures) (away_step _ _ _ h _ _) ∙ a.1)

pub returns : goal.returns
unfolding of_bits
returns c =
    let e = c.len-n.ensures in
    let a = c.loop-t.invariant in
    let h = c.loop-t-test.false in
    rw (← first_of c.len-n.result c.args.ts.count c.args.ts.places e, distance_end _ _ h _ _ ∙ a.0, away_end _ _ h _ _ ∙ a.1, c.zero-abs_distance2.ensures)
