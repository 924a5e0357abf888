use mathlib.Core.Path.{◌∙◌}
use native.Mathlib.Omega.{arith}
use lib.ListN.{length-set}
use Rattle.touches.proofs.Places.{first_of}
use Rattle.touches.proofs.Removal.{kept_start, keeps, drops, kept_end}
use Rattle.touches.proofs.remove.Goals as goal
use Rattle.touches.proofs.remove.Goals.{then-x-id, else-x-id}

pub loop-i-preserved : goal.loop-i-preserved
loop-i-preserved c =
    let v = c.loop-i.invariant in
    let h = c.loop-i-test.true in
    elim c.if-x-id.branch [
      | then-x-id w ↦ (omega arith, omega arith, v.2, rw (w.s-is, length-set) v.3, rw (w.s-is, w.kept-is) (keeps _ _ _ _ _ _ h (omega arith) v.0 w.if-x-id.true ∙ v.4))
      | else-x-id w ↦ (omega arith, omega arith, v.2, rw w.s-is v.3, rw (w.s-is, w.kept-is) (drops _ _ _ _ _ _ h (omega arith) w.if-x-id.false ∙ v.4))
    ]

pub returns : goal.returns
returns c =
    let len = c.len-n in
    let v = c.loop-i.invariant in
    rw (← first_of len.result c.args.ts.count c.args.ts.places len.ensures) (kept_end c.args.id _ _ _ _ c.loop-i-test.false (omega arith) ∙ (v.4 ∙ kept_start _ _ _))
