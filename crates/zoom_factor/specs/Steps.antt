-- What the private functions of src/ ensure, in units of 2^-30. No reader of the public contract needs it.
use Rattle.std.specs.Prelude.{ℕ, ◌+◌, ◌*◌, ◌/◌, ◌%◌, ◌^◌, ◌≤◌, Bool, ◌≡◌}
use Rattle.std.specs.Float.{binary32}
use Rattle.std.specs.Float.Ieee.{hid, of_fields}
use Rattle.std.specs.Float.Ieee.Positive.{num, den}
use Rattle.zoom_factor.specs.Series.{bottom, plus_terms, minus_terms}

-- x is |e| cut to a whole number of units, for an e that is a / b in size
pub record Cut (a b x : ℕ) : Type 0 where
  pub low : x * b ≤ a * 2 ^ 30
  pub high : a * 2 ^ 30 ≤ x * b + b

-- of the value whose pattern, without its sign, is p
pub record CutPattern (p x : ℕ) : Type 0 where
  pub small : x ≤ 2 ^ 30
  pub cut : (s : Bool) → Cut (num (of_fields binary32 s (p / hid binary32) (p % hid binary32))) (den (of_fields binary32 s (p / hid binary32) (p % hid binary32))) x

-- v is at most n units below g / d, and not above it
pub record Under (v g d n : ℕ) : Type 0 where
  pub low : v * d ≤ 2 ^ 30 * g
  pub high : 2 ^ 30 * g ≤ (v + n) * d

-- h is plus - minus, each close to its exact sum
pub record Summed (s : Bool) (a b h : ℕ) : Type 0 where
  pub plus : ℕ
  pub minus : ℕ
  pub is : plus ≡ h + minus
  pub gained : Under plus (plus_terms s a b 13) (bottom b 13) 182
  pub lost : Under minus (minus_terms s a b 13) (bottom b 13) 182
  pub some : h ≤ 3 * 2 ^ 30
