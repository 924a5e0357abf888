-- The whole root: that `isqrt n` is the largest r with r * r ≤ n, that no other number is, one turn of the digit recurrence, and a root of a number with pairs of digits taken off. Assumes nothing.
use mathlib.Core.Path.{◌≡◌, sym, ap, subst}
use Prim.Native.Nat.{ℕ, zero, suc, ◌+◌, ◌-◌, ◌*◌, ◌/◌, ◌%◌, ◌^◌, ◌≤◌, ◌<◌}
use native.Mathlib.Nat.{le_trans, le_of_eq, le_refl, le_antisymm, lt_of_lt_of_le, lt_of_not-le, not-le_of_lt, le_of_suc-le-suc, zero-lt-suc, mul-le-mul, pow-suc, div-lt_iff_lt-mul}
use native.Mathlib.Numerals.{add-one}
use native.Mathlib.Omega.{arith}
use mathlib.Core.Bool.{Bool, true, false, not, cond}
use lib.Dec.{T, leb, leb→le, nleb→lt}
use lib.Ieee.{size}
use lib.Ieee.Digits.{size-lt}
use Rattle.ieee_sqrt.specs.Sqrt.{digit, root, isqrt}

abbrev pub IsRoot : ℕ → ℕ → Type 0
IsRoot r n = (r * r ≤ n) × (n < (r + 1) * (r + 1))

digit_is : (n r : ℕ) → IsRoot r (n / 4) → IsRoot (digit n (2 * r)) n
unfolding digit
digit_is n r h = go (leb ((2 * r + 1) * (2 * r + 1)) n) (leb→le ((2 * r + 1) * (2 * r + 1)) n) (nleb→lt ((2 * r + 1) * (2 * r + 1)) n)
  where
    go : (b : Bool) → (T b → (2 * r + 1) * (2 * r + 1) ≤ n) → (T (not b) → n < (2 * r + 1) * (2 * r + 1)) → IsRoot (cond b (2 * r + 1) (2 * r)) n
    go true a b = (a tt, omega arith)
    go false a b = (omega arith, b tt)

root_is : (d n : ℕ) → n < 4 ^ d → IsRoot (root d n) n
unfolding root
root_is zero n h = (omega arith, omega arith)
root_is (suc d) n h = digit_is n (root d (n / 4)) (root_is d (n / 4) ((div-lt_iff_lt-mul (zero-lt-suc 3)).1 (subst (λ (x : ℕ). n < x) (pow-suc 4 d) h)))

two_four : (d : ℕ) → 2 ^ d ≤ 4 ^ d
two_four zero = le_refl 1
two_four (suc d) = le_trans (le_of_eq (pow-suc 2 d)) (le_trans (mul-le-mul {m₁ = 2} {m₂ = 4} (two_four d) (omega arith)) (le_of_eq (sym (pow-suc 4 d))))

pub isqrt_is : (n : ℕ) → IsRoot (isqrt n) n
unfolding isqrt
isqrt_is n = root_is (size n) n (lt_of_lt_of_le (size-lt n) (two_four (size n)))

-- ---- there is one
square_mono : (a b : ℕ) → a ≤ b → a * a ≤ b * b
square_mono a b h = mul-le-mul h h

pub not_above : (r t n : ℕ) → r * r ≤ n → n < (t + 1) * (t + 1) → r ≤ t
not_above r t n a b = le_of_suc-le-suc (lt_of_not-le (λ (g : suc t ≤ r). not-le_of_lt b (le_trans (le_of_eq (ap (λ (x : ℕ). x * x) (add-one t))) (le_trans (square_mono (suc t) r g) a))))

pub not_below : (r t n : ℕ) → r * r ≤ n → n < t * t → r < t
not_below r t n a b = lt_of_not-le (λ (g : t ≤ r). not-le_of_lt b (le_trans (square_mono t r g) a))

pub root_unique : (r t n : ℕ) → IsRoot r n → IsRoot t n → r ≡ t
root_unique r t n a b = le_antisymm (not_above r t n a.0 b.1) (not_above t r n b.0 a.1)

pub isqrt_unique : (r n : ℕ) → IsRoot r n → isqrt n ≡ r
isqrt_unique r n h = root_unique (isqrt n) r n (isqrt_is n) h

-- ---- one turn: the next two digits v go into the remainder, and the root gets a digit
pub turn_zero : (r m v : ℕ) → (2 * r) * (2 * r) + (m * 4 + v) ≡ (r * r + m) * 4 + v
turn_zero r m v = omega arith

pub turn_one : (r m v : ℕ) → r * 4 + 1 ≤ m * 4 + v → (2 * r + 1) * (2 * r + 1) + (m * 4 + v - (r * 4 + 1)) ≡ (r * r + m) * 4 + v
turn_one r m v h = omega arith

-- what is left of d when its two leading digits of 62 are taken
pub next_digits : (s d u : ℕ) → s * 2 ^ 62 + d ≡ u → (s * 4 + d / 2 ^ 60) * 2 ^ 62 + d % 2 ^ 60 * 4 ≡ u * 4
next_digits s d u e = omega arith

-- the remainder is what makes the root's square the number
pub root_rem : (r m : ℕ) → m ≤ 2 * r → IsRoot r (r * r + m)
root_rem r m h = (omega arith, omega arith)
