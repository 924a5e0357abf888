use Prim.Native.Nat.{◌+◌}
use mathlib.Core.Path.{sym, ◌∙◌}
use native.Mathlib.Omega.{arith}
use Rattle.place_loop.proofs.Loops.{gone_loop}
use Rattle.place_loop.proofs.gone.Goals as goal

pub loop-at-init : goal.loop-at-init
loop-at-init c = gone_loop.begins _

pub returns-then-gone_at : goal.returns-then-gone_at
returns-then-gone_at c =
    let here = sym c.gone_at.ensures ∙ c.if-gone_at.true in
    sym (gone_loop.stays _ _ (c.loop-at.at-index + 1) (gone_loop.goes_on _ _ _ (omega arith) ∙ rw c.loop-at.invariant here))

pub loop-at-preserved : goal.loop-at-preserved
loop-at-preserved c =
    let here = sym c.gone_at.ensures ∙ c.if-gone_at.false in
    gone_loop.goes_on _ _ _ (omega arith) ∙ rw c.loop-at.invariant here
