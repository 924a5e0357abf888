use borrow.Author.Rules.{rules}
use Rattle.std.specs.Prelude.{Some}
use Rattle.std.proofs.lemmas.Nat.{mul-le}
use Prim.Native.Nat.{◌+◌, ◌*◌, ◌-◌}
use native.Mathlib.Omega.{arith}
use mathlib.Core.Path.{◌≡◌, sym, ap₂, ◌∙◌}
use Rattle.image.specs.Places.{rows_bad}
use Rattle.image.proofs.Lists.{row_right, row_wrong, rows_right}
use Rattle.image_words.specs.Leaves.{found}
use Rattle.image_words.proofs.rows_bad.Goals as goal

pub loop-i-init : goal.loop-i-init
loop-i-init g c = λ f ws law.
    let a = c.args in
    let e : a.n ≡ a.n - 0 = omega arith in
    let h : a.at ≡ a.at + 0 * a.size = omega arith in
    ap₂ (λ k j. rows_bad a.size f k ws j) e h

pub overflow_mul-i : goal.overflow_mul-i
overflow_mul-i g c = let a = c.args in omega (arith, mul-le c.loop-i.i a.size a.n a.size (omega arith) (omega arith), c.requires.fits)

pub overflow_add-at : goal.overflow_add-at
overflow_add-at g c = let a = c.args in omega (arith, mul-le c.loop-i.i a.size a.n a.size (omega arith) (omega arith), c.requires.fits)

pub returns-in_err-row : goal.returns-in_err-row
unfolding found
returns-in_err-row g c = λ f ws law.
    let e : found c.from_residual.result ≡ Some c.in_err-row.field-0.0 = search rules in
    e ∙ sym (c.loop-i.invariant f ws law ∙ row_wrong c.args.size f ws _ _ _ c.loop-i-test.true _ (sym (law _ _ c.in_err-row.ensures)))

pub loop-i-preserved : goal.loop-i-preserved
unfolding found
loop-i-preserved g c = λ f ws law.
    c.loop-i.invariant f ws law ∙ row_right c.args.size f ws _ _ _ c.loop-i-test.true (sym (law _ _ c.in_ok-row.ensures))

pub returns : goal.returns
unfolding found
returns g c = λ f ws law. sym (c.loop-i.invariant f ws law ∙ rows_right c.args.size f ws _ _ (omega arith))
