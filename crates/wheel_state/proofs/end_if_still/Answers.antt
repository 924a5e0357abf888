use Rattle.emath.proofs.Parts.{not_equal}
use Rattle.model.specs.Wheel.{end_if_still, end_scroll_action_if}
use Rattle.wheel_state.proofs.end_if_still.Goals as goal

pub returns-then-ne : goal.returns-then-ne
unfolding end_if_still end_scroll_action_if
returns-then-ne c = rw (← c.zero.ensures, ← not_equal c.args.w.smooth_wheel_delta c.zero.result, ← c.ne.ensures, c.if-ne.true)

pub returns : goal.returns
unfolding end_if_still end_scroll_action_if
returns c = rw (← c.zero.ensures, ← not_equal c.args.w.smooth_wheel_delta c.zero.result, ← c.ne.ensures, c.if-ne.false, c.end_if_over.ensures)
