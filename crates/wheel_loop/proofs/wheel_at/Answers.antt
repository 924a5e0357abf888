use borrow.Enum.Refused.{opened}
use mathlib.Core.Path.{sym, ◌∙◌}
use native.Mathlib.Omega.{arith}
use Rattle.data.specs.Kinds.{wheel_kind}
use Rattle.model.specs.Wheel.{wheel_event}
use Rattle.event_loop.proofs.OfKind.{not_of_kind, is_other}
use Rattle.wheel_loop.proofs.Loops.{wheel_idle}
use Rattle.wheel_loop.proofs.wheel_at.Goals as goal

pub returns-in_default : goal.returns-in_default
unfolding wheel_event
returns-in_default c =
    let k = sym c.kind_at.ensures ∙ c.if-kind_at-eq-WHEEL_KIND.true in
    rw (is_other _ _ 9 _ k c.wheel_at-e.ensures (opened c.in_default.in_default-own.keys2) tt)

pub returns-then-kind_at-eq-WHEEL_KIND : goal.returns-then-kind_at-eq-WHEEL_KIND
unfolding wheel_event
returns-then-kind_at-eq-WHEEL_KIND c =
    rw (← c.wheel_at-e.ensures, c.in-MouseWheel.is) c.stepped.ensures

pub returns : goal.returns
returns c = sym (wheel_idle _ _ _ _ _ (not_of_kind _ _ wheel_kind (λ e. c.if-kind_at-eq-WHEEL_KIND.false (c.kind_at.ensures ∙ e)) (λ e. omega arith)))
