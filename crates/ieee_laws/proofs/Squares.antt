-- The root of a square is the number squared, where the square is exact: for the square of an f32 taken in f64. Assumes nothing.
use mathlib.Core.Path.{◌≡◌, refl, sym, ap, ◌∙◌, subst}
use Prim.Native.Nat.{ℕ, zero, suc, ◌+◌, ◌*◌, ◌/◌, ◌^◌, ◌≤◌, ◌<◌}
use native.Mathlib.Nat.{le_of_lt, zero-lt-suc, lt_of_le_of_lt, lt_of_lt_of_le, mul_assoc, mul_right_comm, mul-mul-mul_comm, mul-pos, mul-le-mul, mul-le-mul_left, mul-div_cancel, eq_of_mul-eq-mul_right, zero-mul, pow-suc}
use native.Mathlib.Omega.{arith}
use mathlib.Core.Bool.{true, false, true≢false}
use lib.IntN.{ℤ}
use lib.Dec.{T}
use lib.Pow.{pow_pos, pow-add, pow_mono, shl_lt}
use lib.Ieee.{Float, nan, inf, fin, Format, binary32, binary64, prec, emax, low, up, down, round, mul, fits}
use lib.Ieee.Exact.{HasValue, round_exact}
use lib.Ieee.Fits.{up_pos, down_pos, round-fits, fits_widens}
use lib.Ieee.Positive.{positive}
use lib.Ieee.Scale.{round_same}
use Rattle.ieee_sqrt.specs.Sqrt.{isqrt, twice, rooted, sqrt}
use Rattle.ieee_sqrt.proofs.Isqrt.{isqrt_unique}
use Rattle.ieee_sqrt.proofs.Rooting.{twice_is, rooted_is}
use Rattle.ieee_laws.proofs.Exact.{unique}
use Rattle.ieee_laws.proofs.RootOrder.{rest_zero}
use Rattle.ieee_laws.proofs.Units.{in_units}

-- ---- whole numbers
isqrt_square : (r : ℕ) → isqrt (r * r) ≡ r
isqrt_square r = isqrt_unique r (r * r) (omega arith, omega arith)

twice_square : (r : ℕ) → twice (r * r) ≡ 2 * r
twice_square r =
    let a : isqrt (r * r) ≡ r = isqrt_square r in
    let b = rest_zero (r * r) (ap (λ (x : ℕ). x * x) a) in
    omega (arith, twice_is (r * r))

-- r units are the root of r * r of them
rooted_square : (f : Format) (r : ℕ) → rooted f (r * r) ≡ round f false r (2 ^ low f)
rooted_square f r =
    rooted_is f (r * r)
    ∙ ap (λ (x : ℕ). round f false x (2 ^ suc (low f))) (twice_square r)
    ∙ round_same f false (2 * r) (2 ^ suc (low f)) r (2 ^ low f) (pow_pos (suc (low f))) (pow_pos (low f)) (halves (2 ^ low f) ∙ ap (λ (x : ℕ). r * x) (sym (pow-suc 2 (low f))))
  where
    halves : (L : ℕ) → 2 * r * L ≡ r * (L * 2)
    halves L = omega arith

-- ---- y is X / C, which is r * r in squared units
root_of : (f : Format) (y : Float) (X C r : ℕ) → 0 < X → 0 < C → HasValue y false X C → X * 2 ^ low f * 2 ^ low f ≡ r * r * C → sqrt f y ≡ round f false r (2 ^ low f)
unfolding sqrt
root_of f nan X C r P Q v h = absurd v
root_of f (inf s) X C r P Q v h = absurd v
root_of f (fin true m e) X C r P Q v h = absurd (true≢false v.0)
root_of f (fin false zero e) X C r P Q v h = absurd (none (down e) (down_pos e) v.1)
  where
    none : (D : ℕ) → 0 < D → 0 * up e * C ≡ X * D → ⊥
    none D p h = let z : 0 < X * D = mul-pos P p in let w : 0 * up e * C ≡ 0 = ap (λ (x : ℕ). x * C) (zero-mul (up e)) ∙ zero-mul C in omega arith
root_of f (fin false (suc m) e) X C r P Q v h = ap (rooted f) (ap (λ (x : ℕ). x / down e) (under (suc m * up e) (2 ^ low f) (down e) v.1 h) ∙ mul-div_cancel (r * r) (down_pos e)) ∙ rooted_square f r
  where
    under : (A L D : ℕ) → A * C ≡ X * D → X * L * L ≡ r * r * C → A * L * L ≡ r * r * D
    under A L D v h =
        eq_of_mul-eq-mul_right C Q (A * L * L) (r * r * D)
        (moved A L C ∙ ap (λ (x : ℕ). x * L * L) v ∙ sym (moved X L D) ∙ ap (λ (x : ℕ). x * D) h ∙ mul_right_comm (r * r) C D)
      where
        moved : (a l c : ℕ) → a * l * l * c ≡ a * c * l * l
        moved a l c = mul_right_comm (a * l) l c ∙ ap (λ (x : ℕ). x * l) (mul_right_comm a l c)

-- ---- a value of c * 2 ^ j units, whose square is c * c * 2 ^ k of them: exact, since c * c has no more digits than the format keeps
module _ (f : Format) (m : ℕ) (e : ℤ) (c j k : ℕ) (held : T (fits f (fin false m e))) (v : m * up e * 2 ^ low f ≡ c * 2 ^ j * down e) (P : 0 < m * up e)
    (few : c < 2 ^ prec f) (few' : c * c < 2 ^ prec f) (under : c * 2 ^ j < 2 ^ (low f + suc (emax f))) (under' : c * c * 2 ^ k < 2 ^ (low f + suc (emax f))) (J : j + j ≡ k + low f) where
  squared : (A D L R : ℕ) → A * L ≡ R * D → A * A * L * L ≡ R * R * (D * D)
  squared A D L R e = again ∙ ap (λ (x : ℕ). x * x) e ∙ mul-mul-mul_comm R D R D
    where
      again : A * A * L * L ≡ A * L * (A * L)
      again = mul_assoc (A * A) L L ∙ mul-mul-mul_comm A A L L

  exact : m * up e * (m * up e) * 2 ^ low f ≡ c * c * 2 ^ k * (down e * down e)
  exact =
      eq_of_mul-eq-mul_right (2 ^ low f) (pow_pos (low f)) (m * up e * (m * up e) * 2 ^ low f) (c * c * 2 ^ k * (down e * down e))
      (squared (m * up e) (down e) (2 ^ low f) (c * 2 ^ j) v
      ∙ ap (λ (x : ℕ). x * (down e * down e)) (mul-mul-mul_comm c (2 ^ j) c (2 ^ j) ∙ ap (λ (x : ℕ). c * c * x) (sym (pow-add 2 j j) ∙ ap (λ (x : ℕ). 2 ^ x) J ∙ pow-add 2 k (low f)) ∙ sym (mul_assoc (c * c) (2 ^ k) (2 ^ low f)))
      ∙ mul_right_comm (c * c * 2 ^ k) (2 ^ low f) (down e * down e))

  root_back : sqrt f (mul f (fin false m e) (fin false m e)) ≡ fin false m e
  unfolding mul
  root_back =
      let D = mul-pos (down_pos e) (down_pos e) in
      let X = m * up e * (m * up e) in
      let r = c * 2 ^ j in
      root_of f (round f false X (down e * down e)) X (down e * down e) r (mul-pos P P) D (round_exact f false X (down e * down e) (c * c) k D few' under' exact)
      (squared (m * up e) (down e) (2 ^ low f) r v)
      ∙ unique f (round f false r (2 ^ low f)) (fin false m e) false r (round-fits f false r (2 ^ low f)) held (round_exact f false r (2 ^ low f) c j (pow_pos (low f)) few under refl) (refl, v)

-- ---- f32 values, in f64: 925 is how much finer f64's unit is
finer : (m : ℕ) (e : ℤ) (c s : ℕ) → m * up e * 2 ^ low binary32 ≡ c * 2 ^ s * down e → m * up e * 2 ^ low binary64 ≡ c * 2 ^ (s + 925) * down e
finer m e c s v =
    ap (λ (x : ℕ). m * up e * x) (pow-add 2 (low binary32) 925)
    ∙ sym (mul_assoc (m * up e) (2 ^ low binary32) (2 ^ 925))
    ∙ ap (λ (x : ℕ). x * 2 ^ 925) v
    ∙ mul_right_comm (c * 2 ^ s) (down e) (2 ^ 925)
    ∙ ap (λ (x : ℕ). x * down e) (mul_assoc c (2 ^ s) (2 ^ 925) ∙ ap (λ (x : ℕ). c * x) (sym (pow-add 2 s 925)))

small : (c : ℕ) → c < 2 ^ prec binary32 → (c < 2 ^ prec binary64) × (c * c < 2 ^ prec binary64)
small c h = let k : c * c ≤ 2 ^ 24 * 2 ^ 24 = mul-le-mul (le_of_lt h) (le_of_lt h) in (omega arith, omega arith)

low_enough : (c s : ℕ) → c * 2 ^ s < 2 ^ 277 → (c * 2 ^ (s + 925) < 2 ^ (low binary64 + suc (emax binary64))) × (c * c * 2 ^ (s + s + 776) < 2 ^ (low binary64 + suc (emax binary64)))
low_enough c s h = (
  subst (λ (x : ℕ). x < 2 ^ (low binary64 + suc (emax binary64))) (mul_assoc c (2 ^ s) (2 ^ 925) ∙ ap (λ (x : ℕ). c * x) (sym (pow-add 2 s 925)))
      (lt_of_lt_of_le (shl_lt 277 925 h) (pow_mono {i = 277 + 925} {j = low binary64 + suc (emax binary64)} (omega arith))),
  subst (λ (x : ℕ). x < 2 ^ (low binary64 + suc (emax binary64)))
      (ap (λ (x : ℕ). x * 2 ^ 776) (mul-mul-mul_comm c (2 ^ s) c (2 ^ s) ∙ ap (λ (x : ℕ). c * c * x) (sym (pow-add 2 s s))) ∙ mul_assoc (c * c) (2 ^ (s + s)) (2 ^ 776) ∙ ap (λ (x : ℕ). c * c * x) (sym (pow-add 2 (s + s) 776)))
      (lt_of_lt_of_le (shl_lt (277 + 277) 776 square) (pow_mono {i = 277 + 277 + 776} {j = low binary64 + suc (emax binary64)} (omega arith))),
)
  where
    square : c * 2 ^ s * (c * 2 ^ s) < 2 ^ (277 + 277)
    square = lt_of_le_of_lt (mul-le-mul_left (c * 2 ^ s) (le_of_lt h)) (shl_lt 277 277 h)

pub sqrt_of_square : (d : Float) → T (fits binary32 d) → T (positive d) → sqrt binary64 (mul binary64 d d) ≡ d
sqrt_of_square nan h p = absurd p
sqrt_of_square (inf s) h p = absurd p
sqrt_of_square (fin true m e) h p = absurd p
sqrt_of_square (fin false zero e) h p = absurd p
sqrt_of_square (fin false (suc m) e) h p =
    let u = in_units binary32 (fin false (suc m) e) h tt in
    let c = u.count in
    let s = u.scale in
    let few = small c u.few in
    let under = low_enough c s u.under in
    root_back binary64 (suc m) e c (s + 925) (s + s + 776) (fits_widens (fin false (suc m) e) h) (finer (suc m) e c s u.is) (mul-pos (zero-lt-suc m) (up_pos e)) few.0 few.1 under.0 under.1 (twice_finer s)
  where
    twice_finer : (s : ℕ) → s + 925 + (s + 925) ≡ s + s + 776 + low binary64
    twice_finer s = omega arith
