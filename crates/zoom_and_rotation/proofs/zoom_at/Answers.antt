use borrow.Enum.Refused.{opened}
use native.Mathlib.Omega.{arith}
use Rattle.data.specs.Kinds.{zoom_kind}
use Rattle.model.specs.Pass.{zoom_event}
use Rattle.zoom_and_rotation.proofs.Idle.{zoom_idle}
use Rattle.event_loop.proofs.OfKind.{not_of_kind, is_other}
use mathlib.Core.Path.{sym, ◌∙◌}
use Rattle.zoom_and_rotation.proofs.zoom_at.Goals as goal

pub returns-in_default : goal.returns-in_default
unfolding zoom_event
returns-in_default c =
    let k = sym c.kind_at.ensures ∙ c.if-kind_at-eq-ZOOM_KIND.true in
    rw (is_other _ _ 6 _ k c.zoom_at-e.ensures (opened c.in_default.in_default-own.keys2) tt)

pub returns-then-kind_at-eq-ZOOM_KIND : goal.returns-then-kind_at-eq-ZOOM_KIND
unfolding zoom_event
returns-then-kind_at-eq-ZOOM_KIND c =
    rw (← c.zoom_at-e.ensures, c.in-Zoom.is)

pub returns : goal.returns
returns c = sym (zoom_idle _ _ (not_of_kind _ _ zoom_kind (λ e. c.if-kind_at-eq-ZOOM_KIND.false (c.kind_at.ensures ∙ e)) (λ e. omega arith)))
