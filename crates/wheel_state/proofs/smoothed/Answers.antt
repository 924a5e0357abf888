use Rattle.emath.proofs.Parts.{not_equal}
use Rattle.model.specs.Wheel.{smoothed, smoothed_if}
use Rattle.wheel_state.proofs.smoothed.Goals as goal

pub returns-then-ne : goal.returns-then-ne
unfolding smoothed smoothed_if
returns-then-ne c = rw (← c.zero.ensures, ← not_equal c.args.w.unprocessed_wheel_delta c.zero.result, ← c.ne.ensures, c.if-ne.true, c.add.ensures, c.unapplied-then-ne.ensures, c.unapplied.ensures, c.applied-then-ne.ensures, c.applied.ensures)

pub returns : goal.returns
unfolding smoothed smoothed_if
returns c = rw (← c.zero.ensures, ← not_equal c.args.w.unprocessed_wheel_delta c.zero.result, ← c.ne.ensures, c.if-ne.false)
