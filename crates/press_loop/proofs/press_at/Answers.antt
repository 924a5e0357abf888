use borrow.Enum.Refused.{opened}
use mathlib.Core.Path.{sym, ◌∙◌}
use native.Mathlib.Omega.{arith}
use Rattle.data.specs.Kinds.{moved_kind, button_kind}
use Rattle.model.specs.Types.{Other}
use Rattle.event_loop.proofs.OfKind.{not_of_kind, is_other}
use Rattle.press_loop.proofs.Loops.{press_stays}
use Rattle.press_loop.proofs.press_at.Goals as goal

pub returns-in_default : goal.returns-in_default
returns-in_default c =
    let k = sym c.kind_at-kind.ensures ∙ c.if-kind-eq-MOVED_KIND.true in
    rw (is_other _ _ 2 _ k c.moved_at-e.ensures (opened c.in_default.in_default-own.keys2) tt) (press_stays _ _ Other _ _ _ (λ e. omega arith) (λ e. omega arith))

pub returns-in_default-e : goal.returns-in_default-e
returns-in_default-e c =
    let k = sym c.kind_at-kind.ensures ∙ c.if-kind-eq-BUTTON_KIND.true in
    rw (is_other _ _ 4 _ k c.button_at-e.ensures (opened c.in_default-e.in_default-e-own.keys2) tt) (press_stays _ _ Other _ _ _ (λ e. omega arith) (λ e. omega arith))

pub returns : goal.returns
returns c =
    let k = c.kind_at-kind.ensures in
    press_stays _ _ _ _ _ _
    (not_of_kind _ _ moved_kind (λ e. c.if-kind-eq-MOVED_KIND.false (k ∙ e)) (λ e. omega arith))
    (not_of_kind _ _ button_kind (λ e. c.if-kind-eq-BUTTON_KIND.false (k ∙ e)) (λ e. omega arith))
