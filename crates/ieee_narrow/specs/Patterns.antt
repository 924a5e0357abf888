-- What the private function `narrow_pattern` ensures: a fact of bit patterns. No reader of the public contract needs it.
use Rattle.std.specs.Prelude.{ℕ, ◌+◌, ◌/◌, ◌%◌, ◌≤◌, Bool, cond, ◌≡◌}
use Rattle.std.specs.Float.{binary32, binary64}
use Rattle.std.specs.Float.Ieee.{hid, top, of_fields, of_bits}
use Rattle.ieee_narrow.specs.Narrow.{narrow}

-- r, with either sign put above it, is the pattern of what the f64 with b's two fields and that sign rounds to as an f32
pub record Narrowed (b r : ℕ) : Type 0 where
  pub within : r ≤ 0x7f80_0000
  pub value : (s : Bool) → of_bits binary32 (cond s (top binary32) 0 + r) ≡ narrow binary32 (of_fields binary64 s (b / hid binary64) (b % hid binary64))
