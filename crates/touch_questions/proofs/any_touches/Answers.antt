use mathlib.Core.Path.{◌∙◌, sym}
use Rattle.model.specs.Touch.{any_touches_at}
use Rattle.touch_state.proofs.Known.{any_stops, any_skips, any_ends}
use Rattle.touch_questions.proofs.any_touches.Goals as goal

pub returns-then-any_touches : goal.returns-then-any_touches
unfolding any_touches_at
returns-then-any_touches c =
    rw (← c.known-d-items.ensures.places) (any_stops _ _ _ c.loop-d-test.true (sym c.any_touches.ensures ∙ c.if-any_touches.true) ∙ c.loop-d.invariant)

pub loop-d-preserved : goal.loop-d-preserved
unfolding any_touches_at
loop-d-preserved c = any_skips _ _ _ c.loop-d-test.true (sym c.any_touches.ensures ∙ c.if-any_touches.false) ∙ c.loop-d.invariant

pub returns : goal.returns
returns c = rw (← c.known-d-items.ensures.places) (any_ends _ _ c.loop-d-test.false ∙ c.loop-d.invariant)
