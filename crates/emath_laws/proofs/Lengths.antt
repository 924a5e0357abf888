-- Lengths keep the order of their parts' sizes, and along an axis a length is exact. Assumes nothing.
use mathlib.Core.Path.{◌≡◌, refl, sym, ap, ◌∙◌, subst}
use Prim.Native.Nat.{ℕ, zero, suc, ◌+◌, ◌*◌}
use native.Mathlib.Nat.{zero-lt-suc, zero-mul, mul-pos}
use native.Mathlib.Omega.{arith}
use mathlib.Core.Bool.{Bool, true, false}
use lib.IntN.{ℤ, pos}
use lib.Dec.{T, lt→ltb}
use lib.Pow.{pow_pos}
use lib.Ieee.{Float, nan, inf, fin, Format, binary32, binary64, round, sum, add, mul, le, fits, up, down}
use lib.Ieee.Fits.{mul-fits, down_pos}
use lib.Ieee.Positive.{positive}
use lib.Ieee.Scale.{round_same}
use Rattle.ieee_narrow.specs.Narrow.{narrow}
use Rattle.ieee_sqrt.specs.Sqrt.{sqrt}
use Rattle.emath.specs.declared.vec2.Vec2.{Vec2}
use Rattle.emath.specs.Vec.{abs, length_sq64, length}
use Rattle.ieee_laws.proofs.RoundOrder.{round_zero}
use Rattle.ieee_laws.proofs.Exact.{narrow_exact}
use Rattle.ieee_laws.proofs.Monotone.{+0, sqrt_mono, narrow_mono}
use Rattle.ieee_laws.proofs.Squares.{sqrt_of_square}
use Rattle.emath_laws.proofs.Sizes.{Number, square_abs, squares_not_below, squares_mono}

-- where neither part falls in size, the length does not fall
pub length_mono : (v w : Vec2) → Number v.x → Number v.y → Number w.x → Number w.y → T (le (abs v.x) (abs w.x)) → T (le (abs v.y) (abs w.y)) → T (le (length v) (length w))
unfolding length length_sq64
length_mono v w p q p' q' h k =
    let s = add binary64 (mul binary64 v.x v.x) (mul binary64 v.y v.y) in
    let s' = add binary64 (mul binary64 w.x w.x) (mul binary64 w.y w.y) in
    narrow_mono binary32 (sqrt binary64 s) (sqrt binary64 s')
    (sqrt_mono binary64 s s' (squares_not_below binary64 v.x v.y p q) (squares_mono binary64 v.x v.y w.x w.y p q p' q' h k))

-- ---- along an axis
-- a zero's square, of either sign
pub zero_square : (f : Format) (t : Bool) (e : ℤ) → mul f (fin t 0 e) (fin t 0 e) ≡ +0
unfolding mul
zero_square f t e = go t
  where
    none : round f false (0 * up e * (0 * up e)) (down e * down e) ≡ +0
    none = ap (λ (x : ℕ). round f false (x * x) (down e * down e)) (zero-mul (up e)) ∙ round_zero f false (down e * down e) (mul-pos (down_pos e) (down_pos e))

    go : (t : Bool) → mul f (fin t 0 e) (fin t 0 e) ≡ +0
    go true = none
    go false = none

-- nothing added to a square whose root is above 0
plus_nothing : (f : Format) (z : Float) → T (fits f z) → T (positive (sqrt f z)) → add f z +0 ≡ z
unfolding sqrt
plus_nothing f nan h p = absurd p
plus_nothing f (inf s) h p = unfold add in refl
plus_nothing f (fin true zero e) h p = absurd p
plus_nothing f (fin true (suc m) e) h p = absurd p
plus_nothing f (fin false m e) h p = unfold add sum in round_same f false (m * up e * 1 + 0 * 1 * down e) (down e * 1) (m * up e) (down e) (mul-pos (down_pos e) (pow_pos 0)) (down_pos e) (same (m * up e) (down e)) ∙ unfold narrow in narrow_exact f (fin false m e) h
  where
    same : (a b : ℕ) → (a * 1 + 0 * 1 * b) * b ≡ a * (b * 1)
    same a b = omega arith

-- a zero is written in one way
zero_is : (f : Format) (e : ℤ) → T (fits f (fin false 0 e)) → +0 ≡ fin false 0 e
zero_is f e h = sym (ap (λ (x : ℕ). round f false x (down e)) (zero-mul (up e)) ∙ round_zero f false (down e) (down_pos e)) ∙ unfold narrow in narrow_exact f (fin false 0 e) h

-- the root of x·x + 0·0, narrowed
module _ (t : Bool) where
  abbrev along : Float → Float
  along x = narrow binary32 (sqrt binary64 (add binary64 (mul binary64 x x) (mul binary64 (fin t 0 (pos 0)) (fin t 0 (pos 0)))))

  along_positive : (d : Float) → T (fits binary32 d) → T (positive d) → along d ≡ d
  along_positive d h p =
      let r = sqrt_of_square d h p in
      ap (λ (y : Float). narrow binary32 (sqrt binary64 (add binary64 (mul binary64 d d) y))) (zero_square binary64 t (pos 0))
      ∙ ap (λ (y : Float). narrow binary32 (sqrt binary64 y)) (plus_nothing binary64 (mul binary64 d d) (mul-fits binary64 d d) (subst (λ (y : Float). T (positive y)) (sym r) p))
      ∙ ap (narrow binary32) r
      ∙ narrow_exact binary32 d h

  along_zero : (s : Bool) (e : ℤ) → along (fin s 0 e) ≡ +0
  along_zero s e = ap (λ (y : Float). narrow binary32 (sqrt binary64 (add binary64 y (mul binary64 (fin t 0 (pos 0)) (fin t 0 (pos 0)))))) (zero_square binary64 s e) ∙ go t
    where
      go : (t : Bool) → narrow binary32 (sqrt binary64 (add binary64 +0 (mul binary64 (fin t 0 (pos 0)) (fin t 0 (pos 0))))) ≡ +0
      go true = unfold narrow sqrt add mul in refl
      go false = unfold narrow sqrt add mul in refl

along_infinite : (t s : Bool) → along t (inf s) ≡ inf false
along_infinite t s = ap (λ (y : Float). narrow binary32 (sqrt binary64 (add binary64 (mul binary64 (inf s) (inf s)) y))) (zero_square binary64 t (pos 0)) ∙ go s
  where
    go : (s : Bool) → narrow binary32 (sqrt binary64 (add binary64 (mul binary64 (inf s) (inf s)) +0)) ≡ inf false
    go true = unfold narrow sqrt add mul in refl
    go false = unfold narrow sqrt add mul in refl

-- the length along an axis is the other part's size, exactly
pub length_axis : (t : Bool) (x : Float) → T (fits binary32 x) → length (record { x = x; y = fin t 0 (pos 0) }) ≡ abs x
unfolding length length_sq64 abs
length_axis t nan h = unfold narrow sqrt add mul in refl
length_axis t (inf true) h = along_infinite t true
length_axis t (inf false) h = along_infinite t false
length_axis t (fin s zero e) h = along_zero t s e ∙ zero_is binary32 e (cleared s h)
  where
    cleared : (s : Bool) → T (fits binary32 (fin s 0 e)) → T (fits binary32 (fin false 0 e))
    cleared true h = unfold fits in h
    cleared false h = h
length_axis t (fin true (suc m) e) h = sym (ap (λ (y : Float). narrow binary32 (sqrt binary64 (add binary64 y (mul binary64 (fin t 0 (pos 0)) (fin t 0 (pos 0)))))) (square_abs binary64 (fin true (suc m) e))) ∙ along_positive t (fin false (suc m) e) (unfold fits in h) (lt→ltb 0 (suc m) (zero-lt-suc m))
length_axis t (fin false (suc m) e) h = along_positive t (fin false (suc m) e) h (lt→ltb 0 (suc m) (zero-lt-suc m))
