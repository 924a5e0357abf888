-- A vector whose square in f64 is 64 or more is not shorter than 8, and one whose square is at most 63.75 is. Assumes nothing.
use mathlib.Core.Path.{◌≡◌, refl}
use mathlib.Core.Bool.{Bool, true, false}
use lib.Dec.{T}
use lib.Ieee.{Float, binary64, le, lt, of_bits}
use Rattle.ieee_narrow.specs.Narrow.{narrow}
use Rattle.ieee_sqrt.specs.Sqrt.{sqrt}
use Rattle.emath.specs.declared.vec2.Vec2.{Vec2}
use Rattle.emath.specs.Vec.{length_sq64, length}
use Rattle.ieee_laws.proofs.Order.{le_not_lt, le_lt_trans}
use Rattle.emath_laws.proofs.Rim.{root, root_mono, length_sq64_not_below}
use Rattle.model.specs.Numbers.{eight}

abbrev pub square_of_8 : Float
square_of_8 = of_bits binary64 0x4050_0000_0000_0000

abbrev pub shorter_square : Float
shorter_square = of_bits binary64 0x404f_e000_0000_0000

root_of_64 : root square_of_8 ≡ eight
unfolding narrow sqrt eight of_bits
root_of_64 = refl

shorter_root : T (lt (root shorter_square) eight)
unfolding narrow sqrt eight of_bits lt
shorter_root = tt

is_false : (b : Bool) → (T b → ⊥) → b ≡ false
is_false true h = absurd (h tt)
is_false false h = refl

is_true : (b : Bool) → T b → b ≡ true
is_true true h = refl
is_true false h = absurd h

pub not_short : (v : Vec2) → T (le square_of_8 (length_sq64 v)) → lt (length v) eight ≡ false
unfolding length of_bits le
not_short v h = is_false (lt (length v) eight) (le_not_lt eight (length v) (rw root_of_64 at (root_mono square_of_8 (length_sq64 v) tt h)))

pub short : (v : Vec2) → T (le (length_sq64 v) shorter_square) → lt (length v) eight ≡ true
unfolding length
short v h = is_true (lt (length v) eight) (le_lt_trans (length v) (root shorter_square) eight (root_mono (length_sq64 v) shorter_square (length_sq64_not_below v shorter_square h) h) shorter_root)
