use mathlib.Core.Path.{◌∙◌, sym}
use Rattle.model.specs.Touch.{first_of}
use Rattle.touch_state.proofs.Known.{multi_stops, multi_ends}
use Rattle.touch_questions.proofs.multi_touch.Goals as goal

pub returns-in-Some : goal.returns-in-Some
unfolding first_of
returns-in-Some c =
    rw (← c.known-d-items.ensures.places) (multi_stops _ _ _ c.loop-d-test.true _ (sym c.info.ensures ∙ c.in-Some.is) ∙ c.loop-d.invariant)

pub loop-d-preserved : goal.loop-d-preserved
unfolding first_of
loop-d-preserved c = multi_stops _ _ _ c.loop-d-test.true _ (sym c.info.ensures ∙ c.in_default.is) ∙ c.loop-d.invariant

pub returns : goal.returns
returns c = rw (← c.known-d-items.ensures.places) (multi_ends _ _ c.loop-d-test.false ∙ c.loop-d.invariant)
