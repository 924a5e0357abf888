use Rattle.image_keys.proofs.Rows.{byte_of, read_more}
use Rattle.image_keys.specs.Keys.{press_code}
use Rattle.data.specs.Limits.{key_count}
use Rattle.image.specs.Places.{value_at, rows_at}
use lib.Seq.{take_all}
use lib.ListN.{length, length-set}
use mathlib.Core.Path.{◌≡◌, refl, sym, ap, ◌∙◌}
use native.Mathlib.Omega.{arith}
use Prim.Native.Nat.{ℕ, ◌<◌, ◌%◌}
use Rattle.image_keys.proofs.presses.presses_at.Goals as goal

pub loop-i-init : goal.loop-i-init
unfolding rows_at
loop-i-init c = (omega arith, refl, refl)

pub overflow_add-at : goal.overflow_add-at
overflow_add-at c = omega arith

pub bounds-presses-i : goal.bounds-presses-i
bounds-presses-i c = omega arith

pub loop-i-smaller : goal.loop-i-smaller
loop-i-smaller c = omega arith

pub loop-i-preserved : goal.loop-i-preserved
loop-i-preserved c =
    let l = c.loop-i in
    let a = c.args in
    let h : l.i < length l.presses = omega (arith, c.loop-i-test.true, l.invariant.1) in
    let ws = a.words.now in
    let i = l.i in
    let small : i < key_count = omega (arith, c.requires.0, l.invariant.1) in
    let w = ap (λ (z : ℕ). z % 256) c.word_at.ensures ∙ byte_of ws key_count a.at c.requires.2 i small in
    (simp length-set (omega arith), simp length-set l.invariant.1, read_more l.presses ws a.at i (c.word_at.result % 256) h w l.invariant.2)

pub shape_of-presses : goal.shape_of-presses
shape_of-presses c = c.loop-i.invariant.1

pub returns : goal.returns
returns c =
    let a = c.args in
    let l = c.loop-i in
    let e : l.i ≡ key_count = omega (arith, c.requires.0, l.invariant.0, l.invariant.1, c.loop-i-test.false) in
    sym (take_all _ _ (omega (arith, l.invariant.1, c.loop-i-test.false))) ∙ l.invariant.2 ∙ ap (λ (k : ℕ). rows_at 1 (value_at press_code) k a.words.now a.at) e
