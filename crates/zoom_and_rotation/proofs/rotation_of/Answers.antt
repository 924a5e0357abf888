use mathlib.Core.Path.{sym, ◌∙◌}
use native.Mathlib.Omega.{arith}
use lib.Ieee.{of_bits}
use Rattle.zoom_and_rotation.proofs.Idle.{rotation_loop}
use Rattle.zoom_and_rotation.proofs.rotation_of.Goals as goal

pub loop-at-init : goal.loop-at-init
unfolding of_bits
loop-at-init c = sym (rotation_loop.begins _ _)

pub loop-at-preserved : goal.loop-at-preserved
loop-at-preserved c = c.rotation_at-radians.ensures ∙ rw c.loop-at.invariant (sym (rotation_loop.goes_on _ _ _ _ (omega arith)))
