-- Narrowing and the root give values of the format, and narrowing changes no value that the format holds. For every format. Assumes nothing.
use mathlib.Core.Path.{◌≡◌, refl, sym, ap, ◌∙◌}
use Prim.Native.Nat.{ℕ, zero, suc, ◌*◌, ◌/◌, ◌^◌}
use mathlib.Core.Bool.{Bool, true, false}
use lib.Dec.{T}
use lib.Pow.{pow_pos}
use lib.Ieee.{Float, nan, inf, fin, Format, low, up, down, round, fits, of_bits}
use lib.Ieee.Bits.{of_bits-to_bits}
use lib.Ieee.Exact.{HasValue, round_exact}
use lib.Ieee.Fits.{down_pos, round-fits, nan-fits, inf-fits}
use lib.Ieee.Scale.{round_same}
use Rattle.ieee_narrow.specs.Narrow.{narrow}
use Rattle.ieee_sqrt.specs.Sqrt.{twice, rooted, sqrt}
use Rattle.ieee.proofs.Packed.{to_bits_val}
use Rattle.ieee_laws.proofs.Units.{in_units}

pub narrow_fits : (f : Format) (x : Float) → T (fits f (narrow f x))
unfolding narrow
narrow_fits f nan = nan-fits f
narrow_fits f (inf s) = inf-fits f s
narrow_fits f (fin s m e) = round-fits f s (m * up e) (down e)

rooted_fits : (f : Format) (n : ℕ) → T (fits f (rooted f n))
unfolding rooted
rooted_fits f n = round-fits f false (twice n) (2 ^ suc (low f))

pub sqrt_fits : (f : Format) (x : Float) → T (fits f x) → T (fits f (sqrt f x))
unfolding sqrt
sqrt_fits f nan h = nan-fits f
sqrt_fits f (inf true) h = nan-fits f
sqrt_fits f (inf false) h = inf-fits f false
sqrt_fits f (fin s zero e) h = h
sqrt_fits f (fin true (suc m) e) h = nan-fits f
sqrt_fits f (fin false (suc m) e) h = rooted_fits f (suc m * up e * 2 ^ low f * 2 ^ low f / down e)

-- a value of the format is written in one way
pub unique : (f : Format) (x y : Float) (s : Bool) (a : ℕ) → T (fits f x) → T (fits f y) → HasValue x s a (2 ^ low f) → HasValue y s a (2 ^ low f) → x ≡ y
unique f nan y s a p q h k = absurd h
unique f (inf t) y s a p q h k = absurd h
unique f (fin t m e) nan s a p q h k = absurd k
unique f (fin t m e) (inf u) s a p q h k = absurd k
unique f (fin t m e) (fin u n d) s a p q h k =
    sym (of_bits-to_bits f (fin t m e) p)
    ∙ ap (of_bits f) (to_bits_val f t m e a h.1 ∙ rw (h.0 ∙ sym k.0) (sym (to_bits_val f u n d a k.1)))
    ∙ of_bits-to_bits f (fin u n d) q

pub narrow_exact : (f : Format) (x : Float) → T (fits f x) → narrow f x ≡ x
unfolding narrow
narrow_exact f nan h = refl
narrow_exact f (inf s) h = refl
narrow_exact f (fin s m e) h =
    let u = in_units f (fin s m e) h tt in
    let N = u.count * 2 ^ u.scale in
    round_same f s (m * up e) (down e) N (2 ^ low f) (down_pos e) (pow_pos (low f)) u.is
    ∙ unique f (round f s N (2 ^ low f)) (fin s m e) s N (round-fits f s N (2 ^ low f)) h (round_exact f s N (2 ^ low f) u.count u.scale (pow_pos (low f)) u.few u.under refl) (refl, u.is)
