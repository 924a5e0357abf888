-- Sizes, squares and sums of squares keep the order. For every format. Assumes nothing.
use mathlib.Core.Path.{◌≡◌, refl, sym, subst}
use Prim.Native.Nat.{◌*◌}
use native.Mathlib.Nat.{mul-pos}
use native.Mathlib.Omega.{arith}
use mathlib.Core.Bool.{true, false, not}
use lib.Dec.{T}
use lib.Ieee.{Float, nan, inf, fin, Format, add, mul, le, is_nan, fits, up, down}
use lib.Ieee.Fits.{mul-fits, down_pos}
use Rattle.emath.specs.Vec.{abs}
use Rattle.ieee_laws.proofs.Order.{below→le, le_numbers, le_trans}
use Rattle.ieee_laws.proofs.RoundOrder.{zero_le_round}
use Rattle.ieee_laws.proofs.Monotone.{+0, add_up, add_mono, mul_mono}

abbrev pub Number : Float → Type 0
Number x = T (not (is_nan x))

pub abs_number : (x : Float) → Number x → T (le +0 (abs x))
unfolding abs le is_nan
abs_number nan p = absurd p
abs_number (inf s) p = tt
abs_number (fin s m e) p = below→le +0 (fin false m e) tt tt (omega arith)

-- ---- squares
pub square_abs : (f : Format) (x : Float) → mul f (abs x) (abs x) ≡ mul f x x
unfolding mul abs
square_abs f nan = refl
square_abs f (inf true) = refl
square_abs f (inf false) = refl
square_abs f (fin true m e) = refl
square_abs f (fin false m e) = refl

pub square_not_below : (f : Format) (x : Float) → Number x → T (le +0 (mul f x x))
unfolding mul is_nan
square_not_below f nan p = absurd p
square_not_below f (inf true) p = unfold le in tt
square_not_below f (inf false) p = unfold le in tt
square_not_below f (fin true m e) p = zero_le_round f (m * up e * (m * up e)) (down e * down e) (mul-pos (down_pos e) (down_pos e))
square_not_below f (fin false m e) p = zero_le_round f (m * up e * (m * up e)) (down e * down e) (mul-pos (down_pos e) (down_pos e))

square_mono : (f : Format) (x y : Float) → Number x → Number y → T (le (abs x) (abs y)) → T (le (mul f x x) (mul f y y))
square_mono f x y p q h =
    rw (square_abs f x, square_abs f y) at
    (mul_mono f (abs x) (abs y) (abs x) (abs y) (abs_number x p) (abs_number x p) h h (number x p) (number y q))
  where
    number : (z : Float) → Number z → Number (mul f (abs z) (abs z))
    number z r = subst (λ (w : Float). Number w) (sym (square_abs f z)) (le_numbers +0 (mul f z z) (square_not_below f z r)).1

-- ---- sums of squares
sum_not_below : (f : Format) (u v : Float) → T (fits f u) → T (le +0 u) → T (le +0 v) → T (le +0 (add f u v))
unfolding le
sum_not_below f nan v h p q = absurd p
sum_not_below f (inf true) v h p q = absurd p
sum_not_below f (inf false) nan h p q = absurd q
sum_not_below f (inf false) (inf true) h p q = absurd q
sum_not_below f (inf false) (inf false) h p q = unfold add in tt
sum_not_below f (inf false) (fin t n d) h p q = unfold add in tt
sum_not_below f (fin s m e) v h p q = le_trans +0 (fin s m e) (add f (fin s m e) v) p (add_up f (fin s m e) v h tt q)

module _ (f : Format) where
  pub squares_not_below : (x y : Float) → Number x → Number y → T (le +0 (add f (mul f x x) (mul f y y)))
  squares_not_below x y p q = sum_not_below f (mul f x x) (mul f y y) (mul-fits f x x) (square_not_below f x p) (square_not_below f y q)

  pub squares_mono : (x y x' y' : Float) → Number x → Number y → Number x' → Number y' → T (le (abs x) (abs x')) → T (le (abs y) (abs y'))
      → T (le (add f (mul f x x) (mul f y y)) (add f (mul f x' x') (mul f y' y')))
  squares_mono x y x' y' p q p' q' h k =
      add_mono f (mul f x x) (mul f x' x') (mul f y y) (mul f y' y') (square_mono f x x' p p' h) (square_mono f y y' q q' k)
      (le_numbers +0 (add f (mul f x x) (mul f y y)) (squares_not_below x y p q)).1 (le_numbers +0 (add f (mul f x' x') (mul f y' y')) (squares_not_below x' y' p' q')).1
