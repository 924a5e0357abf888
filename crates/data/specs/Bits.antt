-- One bit as a number, and a bit of a number.
use Rattle.std.specs.Prelude.{ℕ, ◌/◌, ◌%◌, Bool, cond, eqb}

abbrev pub bit_number : Bool → ℕ
bit_number b = cond b 1 0

-- the bit of that weight, a power of 2
abbrev pub bit_of : ℕ → ℕ → Bool
bit_of weight w = eqb (w / weight % 2) 1
