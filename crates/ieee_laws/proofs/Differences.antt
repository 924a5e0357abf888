-- A difference does not fall when its ends move apart. For every format. Assumes nothing.
use Prim.Native.Nat.{◌*◌}
use native.Mathlib.Nat.{mul-pos}
use mathlib.Core.Bool.{not}
use lib.Dec.{T}
use lib.Ieee.{Float, nan, inf, fin, Format, up, down, neg, sub, le, is_nan}
use lib.Ieee.Fits.{down_pos}
use lib.Ieee.Scale.{finite}
use Rattle.ieee_laws.proofs.Order.{neg_anti}
use Rattle.ieee_laws.proofs.RoundOrder.{sum_number}
use Rattle.ieee_laws.proofs.Monotone.{add_mono}

-- for all values whose differences are numbers
pub sub_mono : (f : Format) (a b c d : Float) → T (le a b) → T (le c d) → T (not (is_nan (sub f c b))) → T (not (is_nan (sub f d a))) → T (le (sub f c b) (sub f d a))
unfolding sub
sub_mono f a b c d h k p q = add_mono f c d (neg b) (neg a) k (neg_anti a b h) p q

pub sub_number : (f : Format) (x y : Float) → T (finite x) → T (finite y) → T (not (is_nan (sub f x y)))
unfolding sub
sub_number f nan y p q = absurd p
sub_number f (inf s) y p q = absurd p
sub_number f (fin s m e) nan p q = absurd q
sub_number f (fin s m e) (inf t) p q = absurd q
sub_number f (fin s m e) (fin t n d) p q = sum_number f s (m * up e * down d) (not t) (n * up d * down e) (down e * down d) (mul-pos (down_pos e) (down_pos d))

pub sub_spans : (f : Format) (a b c d : Float) → T (finite a) → T (finite b) → T (finite c) → T (finite d) → T (le a b) → T (le b c) → T (le c d) → T (le (sub f c b) (sub f d a))
sub_spans f a b c d pa pb pc pd ab bc cd = sub_mono f a b c d ab cd (sub_number f c b pc pb) (sub_number f d a pd pa)
