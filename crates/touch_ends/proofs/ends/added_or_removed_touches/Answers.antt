use Prim.Native.Nat.{◌+◌}
use mathlib.Core.Path.{sym, ◌∙◌}
use native.Mathlib.Omega.{arith}
use Rattle.touch_ends.proofs.Ended.{adds_loop}
use Rattle.touch_ends.proofs.ends.added_or_removed_touches.Goals as goal

pub loop-at-init : goal.loop-at-init
loop-at-init c = (adds_loop _).begins _

pub returns-then-adds_at : goal.returns-then-adds_at
returns-then-adds_at c =
    let here = sym c.adds_at.ensures ∙ c.if-adds_at.true in
    sym ((adds_loop _).stays _ _ (c.loop-at.at-index + 1) ((adds_loop _).goes_on _ _ _ (omega arith) ∙ rw c.loop-at.invariant here))

pub loop-at-preserved : goal.loop-at-preserved
loop-at-preserved c =
    let here = sym c.adds_at.ensures ∙ c.if-adds_at.false in
    (adds_loop _).goes_on _ _ _ (omega arith) ∙ rw c.loop-at.invariant here
