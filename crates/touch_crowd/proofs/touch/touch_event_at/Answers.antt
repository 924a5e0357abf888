use borrow.Enum.Refused.{opened}
use Rattle.event_loop.proofs.OfKind.{is_other}
use Rattle.touch_crowd.specs.Touch.{touch_of}
use Rattle.survey.proofs.Places.{no_event_9}
use Rattle.touch_crowd.proofs.TouchOf.{no_touch_of}
use mathlib.Core.Path.{sym, ◌∙◌}
use Rattle.touch_crowd.proofs.touch.touch_event_at.Goals as goal

pub returns-in_default : goal.returns-in_default
unfolding touch_of
returns-in_default c =
    let k = sym c.kind_at.ensures ∙ c.if-kind_at-eq-TOUCH_KIND.true in
    rw (is_other _ _ 8 _ k c.touch_at-e.ensures (opened c.in_default.in_default-own.keys2) tt)

pub returns-then-kind_at-eq-TOUCH_KIND : goal.returns-then-kind_at-eq-TOUCH_KIND
unfolding touch_of
returns-then-kind_at-eq-TOUCH_KIND c =
    rw (← c.touch_at-e.ensures, c.in-Touch.is)

pub returns : goal.returns
returns c = sym (no_touch_of _ (no_event_9 _ _ (λ e. c.if-kind_at-eq-TOUCH_KIND.false (c.kind_at.ensures ∙ e))))
