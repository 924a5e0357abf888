-- A.5: "the sum of e^k / k! for k from 0 to 13, that sum held as a ratio of two whole numbers". Here e is a / b in size, and below 0 where s is true.
use Rattle.std.specs.Prelude.{ℕ, zero, suc, ◌+◌, ◌-◌, ◌*◌, ◌%◌, ◌^◌, Bool, false, ◌&&◌, cond, eqb, Float}
use Rattle.std.specs.Float.{nan, inf, fin}
use Rattle.std.specs.Float.Ieee.Positive.{num, den}

-- the float's sign
abbrev pub negative : Float → Bool
negative nan = false
negative (inf s) = s
negative (fin s m e) = s

-- e^k is below 0: e is, and k is odd. (Where e is -0.0 such a term is 0.)
unfoldable pub below_zero : Bool → ℕ → Bool
below_zero s k = s && eqb (k % 2) 1

-- k! * b^k: e^k / k! is a^k over it, in size
unfoldable pub bottom : ℕ → ℕ → ℕ
bottom b zero = 1
bottom b (suc k) = bottom b k * (suc k * b)

-- over `bottom b k`, the sum of those of the terms e^0 / 0! to e^k / k! that are not below 0
unfoldable pub plus_terms : Bool → ℕ → ℕ → ℕ → ℕ
plus_terms s a b zero = 1
plus_terms s a b (suc k) = plus_terms s a b k * (suc k * b) + cond (below_zero s (suc k)) 0 (a ^ suc k)

-- over `bottom b k`, the sum of the sizes of the others
unfoldable pub minus_terms : Bool → ℕ → ℕ → ℕ → ℕ
minus_terms s a b zero = 0
minus_terms s a b (suc k) = minus_terms s a b k * (suc k * b) + cond (below_zero s (suc k)) (a ^ suc k) 0

-- the sum S is numerator e / denominator e
unfoldable pub numerator : Float → ℕ
numerator e = plus_terms (negative e) (num e) (den e) 13 - minus_terms (negative e) (num e) (den e) 13

unfoldable pub denominator : Float → ℕ
denominator e = bottom (den e) 13
