use mathlib.Core.Path.{◌∙◌}
use lib.Ieee.{of_bits}
use Rattle.touches.proofs.Places.{first_of}
use Rattle.gesture.proofs.Turns.{force_step, pos_step, force_end, pos_end}
use Rattle.gesture.proofs.sum.Goals as goal

pub loop-t-preserved : goal.loop-t-preserved
loop-t-preserved c =
    let h = c.loop-t-test.true in
    let a = c.loop-t.invariant in
    (rw c.force_or_zero-force.ensures (force_step _ _ _ h _) ∙ a.0, pos_step _ _ _ h _ ∙ a.1)

pub returns : goal.returns
unfolding of_bits
returns c =
    let e = c.len-n.ensures in
    let a = c.loop-t.invariant in
    let h = c.loop-t-test.false in
    rw (← first_of c.len-n.result c.args.ts.count c.args.ts.places e, force_end _ _ h _ ∙ a.0, pos_end _ _ h _ ∙ a.1, c.zero-pos.ensures)
