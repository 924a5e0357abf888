use mathlib.Core.Path.{sym, ◌∙◌}
use native.Mathlib.Omega.{arith}
use Rattle.wheel_loop.proofs.Loops.{wheel_loop}
use Rattle.wheel_loop.proofs.wheel_events.Goals as goal

pub loop-at-init : goal.loop-at-init
loop-at-init c = sym ((wheel_loop _ _ _).begins _ _)

pub loop-at-preserved : goal.loop-at-preserved
loop-at-preserved c = c.wheel_at-v.ensures ∙ rw c.loop-at.invariant (sym ((wheel_loop _ _ _).goes_on _ _ _ _ (omega arith)))
