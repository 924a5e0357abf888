use mathlib.Core.Path.{◌≡◌, sym, ap, ◌∙◌, subst}
use mathlib.Core.Logic.{◌⊎◌, inl, inr}
use mathlib.Core.Bool.{Bool, true, false, not, cond}
use lib.Dec.{T, leb, leb→le, nleb→lt}
use Prim.Native.Nat.{ℕ, ◌+◌, ◌-◌, ◌*◌, ◌/◌, ◌%◌, ◌^◌, ◌≤◌, ◌<◌}
use native.Mathlib.Nat.{le_antisymm, mod-lt, div-add-mod', mul_assoc, mul_comm, mul-one, add-zero, pow-suc, pow-succ'}
use native.Mathlib.Numerals.{add-one}
use native.Mathlib.Omega.{arith}
use lib.Arith.{digits_div, digits_mod}
use lib.Pow.{pow_mono, pow_pos}
use Rattle.ieee_sqrt.specs.Sqrt.{isqrt}
use Rattle.ieee_sqrt.specs.Recurrence.{taken, Recurrence}
use Rattle.ieee_sqrt.proofs.Isqrt.{IsRoot, isqrt_unique, turn_zero, turn_one, next_digits, root_rem}
use Rattle.ieee_sqrt.proofs.root_digits.Goals as goal
use Rattle.ieee_sqrt.proofs.root_digits.Goals.{After-digit-one}

-- d * 4 ^ i, whose upper part is taken in and whose lower word is left
whole : {d n left rem root i : ℕ} → Recurrence d n left rem root i → (root * root + rem) * 2 ^ 62 + left ≡ d * 4 ^ i
whole {d} {n} {left} {rem} {root} {i} f = ap (λ (x : ℕ). x * 2 ^ 62 + left) f.sum ∙ ap (λ (x : ℕ). taken d i * 2 ^ 62 + x) f.rest ∙ div-add-mod' (d * 4 ^ i) (2 ^ 62)

word : {d n left rem root i : ℕ} → Recurrence d n left rem root i → left < 2 ^ 62
word {d} {n} {left} {rem} {root} {i} f = subst (λ (x : ℕ). x < 2 ^ 62) (sym f.rest) (mod-lt (d * 4 ^ i) (pow_pos 62))

parts : (s left u : ℕ) → s * 2 ^ 62 + left ≡ u → left < 2 ^ 62 → (s ≡ u / 2 ^ 62) × (left ≡ u % 2 ^ 62)
parts s left u e h = (sym (ap (λ (x : ℕ). x / 2 ^ 62) (sym e) ∙ digits_div s h), sym (ap (λ (x : ℕ). x % 2 ^ 62) (sym e) ∙ digits_mod s h))

-- within the loop
bound : {d n left rem root i : ℕ} → Recurrence d n left rem root i → i < n → n ≤ 54 → root < 2 ^ 53
bound {n = n} {root = root} {i = i} f h k =
    let a : root < 2 ^ i = f.digits in
    let b : 2 ^ i ≤ 2 ^ 53 = pow_mono {i = i} {j = 53} (omega arith) in
    omega arith

next_power : (i : ℕ) → 2 ^ (i + 1) ≡ 2 * 2 ^ i
next_power i = ap (λ (x : ℕ). 2 ^ x) (add-one i) ∙ pow-succ' 2 i

next_four : (d i : ℕ) → d * 4 ^ i * 4 ≡ d * 4 ^ (i + 1)
next_four d i = mul_assoc d (4 ^ i) 4 ∙ ap (λ (x : ℕ). d * x) (sym (pow-suc 4 i) ∙ ap (λ (x : ℕ). 4 ^ x) (sym (add-one i)))

step_zero : (d n left rem root i : ℕ) → Recurrence d n left rem root i → i < n → rem * 4 + left / 2 ^ 60 < root * 4 + 1 → Recurrence d n (left % 2 ^ 60 * 4) (rem * 4 + left / 2 ^ 60) (root * 2) (i + 1)
step_zero d n left rem root i f h t =
    let e = next_power i in
    let w = word f in
    let k = parts (root * 2 * (root * 2) + (rem * 4 + left / 2 ^ 60)) (left % 2 ^ 60 * 4) (d * 4 ^ (i + 1))
    (ap (λ (x : ℕ). x * 2 ^ 62 + left % 2 ^ 60 * 4) (ap (λ (x : ℕ). x * x + (rem * 4 + left / 2 ^ 60)) (mul_comm root 2) ∙ turn_zero root rem (left / 2 ^ 60))
    ∙ next_digits (root * root + rem) left (d * 4 ^ i) (whole f)
    ∙ next_four d i) (omega arith) in
    record { turns = omega arith; sum = k.0; small = omega arith; digits = omega (arith, f.digits); rest = k.1 }

step_one : (d n left rem root i : ℕ) → Recurrence d n left rem root i → i < n → root * 4 + 1 ≤ rem * 4 + left / 2 ^ 60
    → Recurrence d n (left % 2 ^ 60 * 4) (rem * 4 + left / 2 ^ 60 - (root * 4 + 1)) (root * 2 + 1) (i + 1)
step_one d n left rem root i f h t =
    let e = next_power i in
    let w = word f in
    let k = parts ((root * 2 + 1) * (root * 2 + 1) + (rem * 4 + left / 2 ^ 60 - (root * 4 + 1))) (left % 2 ^ 60 * 4) (d * 4 ^ (i + 1))
    (ap (λ (x : ℕ). x * 2 ^ 62 + left % 2 ^ 60 * 4)
    (ap (λ (x : ℕ). (x + 1) * (x + 1) + (rem * 4 + left / 2 ^ 60 - (root * 4 + 1))) (mul_comm root 2) ∙ turn_one root rem (left / 2 ^ 60) t)
    ∙ next_digits (root * root + rem) left (d * 4 ^ i) (whole f)
    ∙ next_four d i) (omega arith) in
    record { turns = omega arith; sum = k.0; small = omega (arith, f.small, w); digits = omega (arith, f.digits); rest = k.1 }

done : (d n left rem root i : ℕ) → Recurrence d n left rem root i → n ≤ i → root ≡ isqrt (taken d n)
done d n left rem root i f h =
    let e : i ≡ n = le_antisymm f.turns h in
    sym (isqrt_unique root (taken d n) (subst (λ (x : ℕ). IsRoot root x) (f.sum ∙ ap (taken d) e) (root_rem root rem f.small)))

less_none : (r t : ℕ) → r - t * 0 ≡ r
less_none r t = omega arith

-- what `digit` answers
digit_cases : (rem t one : ℕ) → one ≡ cond (leb t rem) 1 0 → ((one ≡ 0) × (rem < t)) ⊎ ((one ≡ 1) × (t ≤ rem))
digit_cases rem t one e = go (leb t rem) (leb→le t rem) (nleb→lt t rem) e
  where
    go : (b : Bool) → (T b → t ≤ rem) → (T (not b) → rem < t) → one ≡ cond b 1 0 → ((one ≡ 0) × (rem < t)) ⊎ ((one ≡ 1) × (t ≤ rem))
    go true l g e = inr (e, l tt)
    go false l g e = inl (e, g tt)

fits_in : (rem t one : ℕ) → one ≡ cond (leb t rem) 1 0 → (t * one ≤ rem) × (one ≤ 1)
fits_in rem t one e =
    elim (digit_cases rem t one e) [
      | inl w ↦ let k : t * one ≡ t * 0 = ap (λ (x : ℕ). t * x) w.0 in (omega (arith, w.0), omega (arith, w.0))
      | inr w ↦ let k : t * one ≡ t * 1 = ap (λ (x : ℕ). t * x) w.0 in (omega (arith, w.0, w.1), omega (arith, w.0))
    ]

step : (d n left rem root i one : ℕ) → Recurrence d n left rem root i → i < n → one ≡ cond (leb (root * 4 + 1) (rem * 4 + left / 2 ^ 60)) 1 0
    → Recurrence d n (left % 2 ^ 60 * 4) (rem * 4 + left / 2 ^ 60 - (root * 4 + 1) * one) (root * 2 + one) (i + 1)
step d n left rem root i one f h e = go (digit_cases (rem * 4 + left / 2 ^ 60) (root * 4 + 1) one e)
  where
    go : ((one ≡ 0) × ((rem * 4 + left / 2 ^ 60) < root * 4 + 1)) ⊎ ((one ≡ 1) × (root * 4 + 1 ≤ (rem * 4 + left / 2 ^ 60))) → Recurrence d n (left % 2 ^ 60 * 4) (rem * 4 + left / 2 ^ 60 - (root * 4 + 1) * one) (root * 2 + one) (i + 1)
    go (inl w) =
        subst (λ (x : ℕ). Recurrence d n (left % 2 ^ 60 * 4) (rem * 4 + left / 2 ^ 60 - (root * 4 + 1) * x) (root * 2 + x) (i + 1)) (sym w.0)
        (subst (λ (x : ℕ). Recurrence d n (left % 2 ^ 60 * 4) x (root * 2 + 0) (i + 1)) (sym (less_none (rem * 4 + left / 2 ^ 60) (root * 4 + 1)))
        (subst (λ (x : ℕ). Recurrence d n (left % 2 ^ 60 * 4) (rem * 4 + left / 2 ^ 60) x (i + 1)) (sym (add-zero (root * 2))) (step_zero d n left rem root i f h w.1)))
    go (inr w) =
        subst (λ (x : ℕ). Recurrence d n (left % 2 ^ 60 * 4) (rem * 4 + left / 2 ^ 60 - (root * 4 + 1) * x) (root * 2 + x) (i + 1)) (sym w.0) (subst (λ (x : ℕ). Recurrence d n (left % 2 ^ 60 * 4) ((rem * 4 + left / 2 ^ 60) - x) (root * 2 + 1) (i + 1)) (sym (mul-one (root * 4 + 1))) (step_one d n left rem root i f h w.1))

-- the digit found, and its product with t
found : (c : After-digit-one) → ((c.loop-i.root * 4 + 1) * c.digit-one.result ≤ c.loop-i.rem * 4 + c.loop-i.left / 2 ^ 60) × (c.digit-one.result ≤ 1)
found c = let l = c.loop-i in fits_in (l.rem * 4 + l.left / 2 ^ 60) (l.root * 4 + 1) c.digit-one.result c.digit-one.ensures

pub overflow_mul-rem : goal.overflow_mul-rem
overflow_mul-rem c = omega (arith, bound c.loop-i.invariant c.loop-i-test.true c.requires.1)

pub overflow_add-rem : goal.overflow_add-rem
overflow_add-rem c = omega (arith, bound c.loop-i.invariant c.loop-i-test.true c.requires.1)

pub overflow_mul-t : goal.overflow_mul-t
overflow_mul-t c = omega (arith, bound c.loop-i.invariant c.loop-i-test.true c.requires.1)

pub overflow_add-t : goal.overflow_add-t
overflow_add-t c = omega (arith, bound c.loop-i.invariant c.loop-i-test.true c.requires.1)

pub overflow_mul-rem-in-loop-i : goal.overflow_mul-rem-in-loop-i
overflow_mul-rem-in-loop-i c = omega (arith, found c, bound c.loop-i.invariant c.loop-i-test.true c.requires.1)

pub loop-i-preserved : goal.loop-i-preserved
loop-i-preserved c =
    let l = c.loop-i in
    let a = c.args in
    step a.d a.n l.left l.rem l.root l.i c.digit-one.result l.invariant c.loop-i-test.true c.digit-one.ensures

pub returns : goal.returns
returns c = done c.args.d c.args.n c.loop-i.left c.loop-i.rem c.loop-i.root c.loop-i.i c.loop-i.invariant c.loop-i-test.false
