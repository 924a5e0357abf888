use borrow.Enum.Refused.{opened}
use mathlib.Core.Path.{sym, ◌∙◌}
use native.Mathlib.Omega.{arith}
use Rattle.data.specs.Kinds.{gone_kind}
use Rattle.model.specs.Pointer.{clear_history_after}
use Rattle.event_loop.proofs.OfKind.{not_of_kind, is_other}
use Rattle.place_loop.proofs.Loops.{gone_idle}
use Rattle.place_loop.proofs.gone_at.Goals as goal

pub returns-in_default : goal.returns-in_default
unfolding clear_history_after
returns-in_default c =
    let k = sym c.kind_at.ensures ∙ c.if-kind_at-eq-GONE_KIND.true in
    rw (is_other _ _ 5 _ k c.gone_at.ensures (opened c.in_default.in_default-own.keys2) tt)

pub returns-then-kind_at-eq-GONE_KIND : goal.returns-then-kind_at-eq-GONE_KIND
unfolding clear_history_after
returns-then-kind_at-eq-GONE_KIND c =
    rw (← c.gone_at.ensures, c.in-PointerGone.is)

pub returns : goal.returns
returns c = sym (gone_idle _ (not_of_kind _ _ gone_kind (λ e. c.if-kind_at-eq-GONE_KIND.false (c.kind_at.ensures ∙ e)) (λ e. omega arith)))
