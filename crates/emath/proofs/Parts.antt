-- What the code's `0.0`, the derived `==` of vectors and std's `f32::abs` give, in the words of specs/Vec.antt.
use Rattle.std.specs.Prelude.{◌≡◌, Bool, true, false, not, ◌&&◌, ◌||◌, refl, Float}
use Rattle.std.specs.Float.{nan, inf, fin, binary32, float_with_sign}
use Rattle.std.specs.Float.Ieee.{eq, ne, of_bits}
use Rattle.emath.specs.Types.{Vec2}
use Rattle.emath.specs.Vec.{+0, abs, vec_ne}

-- the code's `0.0`
pub zero_value : of_bits binary32 0 ≡ +0
unfolding of_bits
zero_value = refl

not-and : (a b : Bool) → not (a && b) ≡ (not a || not b)
not-and true b = refl
not-and false b = refl

-- `v != w`
pub not_equal : (v w : Vec2) → not (eq v.x w.x && eq v.y w.y) ≡ vec_ne v w
unfolding vec_ne ne
not_equal v w = not-and (eq v.x w.x) (eq v.y w.y)

pub with_sign : (x : Float) → float_with_sign false x ≡ abs x
unfolding float_with_sign abs
with_sign nan = refl
with_sign (inf s) = refl
with_sign (fin s m e) = refl
