-- What the private functions of src/ ask and ensure: facts of bit patterns, for a format that they know by `prec` and `low` alone. No reader of the public contracts needs them.
use Rattle.std.specs.Prelude.{ℕ, ◌+◌, ◌-◌, ◌*◌, ◌^◌, ◌≤◌, ◌<◌, ◌≡◌}
use Rattle.std.specs.Float.{Format}
use Rattle.std.specs.Float.Ieee.{prec, emax, low, hid, ones, of_bits}
use Rattle.ieee_sqrt.specs.Sqrt.{rooted, sqrt}

-- q * 2 ^ j stands under the root, in squared units of a format that keeps p digits, and q has p digits
pub record Radicand (p q j : ℕ) : Type 0 where
  pub format : Format
  pub keeps : p ≡ prec format
  pub leading : 2 ^ (p - 1) ≤ q
  pub within : q < 2 ^ p
  pub enough : p + 2 ≤ j
  pub limit : j ≤ 2 * emax format + low format

-- r is the pattern of its root
pub record Rooted (p q j r : ℕ) : Type 0 where
  pub value : (f : Format) → p ≡ prec f → j ≤ 2 * emax f + low f → (r < ones f * hid f) × (of_bits f r ≡ rooted f (q * 2 ^ j))

-- b is the pattern of a value above zero and below the infinity, of a format that keeps p digits and whose least value is 2 ^ -l
pub record Positive (p l b : ℕ) : Type 0 where
  pub format : Format
  pub keeps : p ≡ prec format
  pub least : l ≡ low format
  pub above : 0 < b
  pub below : b < ones format * hid format

-- r is the pattern of the value's root
pub record RootOf (p l b r : ℕ) : Type 0 where
  pub value : (f : Format) → p ≡ prec f → l ≡ low f → b < ones f * hid f → (r < ones f * hid f) × (of_bits f r ≡ sqrt f (of_bits f b))
