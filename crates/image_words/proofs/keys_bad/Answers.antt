use borrow.Author.Rules.{rules}
use Rattle.std.specs.Prelude.{Some}
use Rattle.std.proofs.lemmas.Nat.{mul-le}
use Prim.Native.Nat.{◌+◌, ◌*◌, ◌-◌}
use native.Mathlib.Omega.{arith}
use mathlib.Core.Path.{◌≡◌, sym, ap₂, ◌∙◌}
use mathlib.Core.List.{[]}
use Rattle.image.specs.Places.{keys_bad}
use Rattle.image.proofs.Lists.{key_right, key_wrong, keys_right}
use Rattle.image_words.specs.Leaves.{found, ascending, seen_of}
use Rattle.image_words.proofs.Laws.{keys_last}
use Rattle.image_words.proofs.keys_bad.Goals as goal

pub loop-i-init : goal.loop-i-init
unfolding seen_of
loop-i-init g c = λ f law.
    let a = c.args in
    let e : a.n ≡ a.n - 0 = omega arith in
    let h : a.at ≡ a.at + 0 * (2 + a.after) = omega arith in
    ap₂ (λ k j. keys_bad a.after ascending f k [] a.words.now j) e h

pub overflow_add-k : goal.overflow_add-k
overflow_add-k g c = let a = c.args in let s = 2 + a.after in omega (arith, mul-le 1 s a.n s (omega arith) (omega arith), c.requires.fits)

pub overflow_mul-k : goal.overflow_mul-k
overflow_mul-k g c = let a = c.args in let s = 2 + a.after in omega (arith, mul-le c.loop-i.i s a.n s (omega arith) (omega arith), c.requires.fits)

pub overflow_add-k-in-loop-i : goal.overflow_add-k-in-loop-i
overflow_add-k-in-loop-i g c = let a = c.args in let s = 2 + a.after in omega (arith, mul-le c.loop-i.i s a.n s (omega arith) (omega arith), c.requires.fits)

pub returns-in_err-entry : goal.returns-in_err-entry
unfolding found
returns-in_err-entry g c = λ f law.
    let e : found c.from_residual.result ≡ Some c.in_err-entry.field-0.0 = search rules in
    e ∙ sym (c.loop-i.invariant f law ∙ key_wrong c.args.after ascending f _ _ _ _ _ c.loop-i-test.true _ (sym (law _ _ _ c.in_err-entry.ensures)))

pub loop-i-preserved : goal.loop-i-preserved
unfolding found seen_of
loop-i-preserved g c = λ f law.
    rw c.two_at.ensures
    (c.loop-i.invariant f law ∙ key_right c.args.after ascending f _ _ _ _ _ c.loop-i-test.true (sym (law _ _ _ c.in_ok-entry.ensures))
    ∙ keys_last c.args.after f _ _ _ _ [] _)

pub returns : goal.returns
unfolding found
returns g c = λ f law. sym (c.loop-i.invariant f law ∙ keys_right c.args.after ascending f _ _ _ _ (omega arith))
