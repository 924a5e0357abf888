use mathlib.Core.Path.{sym, ◌∙◌}
use native.Mathlib.Omega.{arith}
use Rattle.model.specs.Numbers.{one}
use Rattle.zoom_and_rotation.proofs.Idle.{zoom_loop}
use Rattle.zoom_and_rotation.proofs.zoom_of.Goals as goal

pub loop-at-init : goal.loop-at-init
unfolding one
loop-at-init c = sym (zoom_loop.begins _ _)

pub loop-at-preserved : goal.loop-at-preserved
loop-at-preserved c = c.zoom_at-factor.ensures ∙ rw c.loop-at.invariant (sym (zoom_loop.goes_on _ _ _ _ (omega arith)))
