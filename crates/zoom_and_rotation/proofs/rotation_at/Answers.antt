use borrow.Enum.Refused.{opened}
use native.Mathlib.Omega.{arith}
use Rattle.data.specs.Kinds.{rotate_kind}
use Rattle.model.specs.Pass.{rotation_event}
use Rattle.zoom_and_rotation.proofs.Idle.{rotation_idle}
use Rattle.event_loop.proofs.OfKind.{not_of_kind, is_other}
use mathlib.Core.Path.{sym, ◌∙◌}
use Rattle.zoom_and_rotation.proofs.rotation_at.Goals as goal

pub returns-in_default : goal.returns-in_default
unfolding rotation_event
returns-in_default c =
    let k = sym c.kind_at.ensures ∙ c.if-kind_at-eq-ROTATE_KIND.true in
    rw (is_other _ _ 7 _ k c.rotate_at-e.ensures (opened c.in_default.in_default-own.keys2) tt)

pub returns-then-kind_at-eq-ROTATE_KIND : goal.returns-then-kind_at-eq-ROTATE_KIND
unfolding rotation_event
returns-then-kind_at-eq-ROTATE_KIND c =
    rw (← c.rotate_at-e.ensures, c.in-Rotate.is)

pub returns : goal.returns
returns c = sym (rotation_idle _ _ (not_of_kind _ _ rotate_kind (λ e. c.if-kind_at-eq-ROTATE_KIND.false (c.kind_at.ensures ∙ e)) (λ e. omega arith)))
