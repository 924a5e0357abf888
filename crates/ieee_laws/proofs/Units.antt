-- A finite value of a format is a whole number of the format's smallest values, its units: `count` * 2 ^ `scale`, with `count` below 2 ^ prec. For every format. Assumes nothing.
use mathlib.Core.Path.{◌≡◌, sym, ap, ◌∙◌}
use mathlib.Core.Logic.{◌⊎◌, inl, inr}
use Prim.Native.Nat.{ℕ, zero, suc, ◌+◌, ◌-◌, ◌*◌, ◌%◌, ◌^◌, ◌≤◌, ◌<◌}
use native.Mathlib.Nat.{le_of_eq, le_refl, lt_of_lt_of_le, lt_of_le_of_lt, le_of_suc-le-suc, mul-one, one-mul, zero-mul, mul_assoc, mul_comm, mul_right_comm, mul-le-mul, mul-lt-mul_of_pos_right, lt_of_mul-lt-mul_right, pow-succ'}
use native.Mathlib.Omega.{arith}
use mathlib.Core.Bool.{Bool, true, false, not, ◌&&◌}
use lib.IntN.{ℤ, pos, negsuc}
use lib.Dec.{T, leb, ltb, eqb, leb→le, nleb→lt, ltb→lt}
use lib.Pow.{pow-add, pow_pos, pow_mono}
use lib.Ieee.{Float, nan, inf, fin, Format, prec, emax, low, up, down, fits}
use lib.Ieee.Fits.{and_l, and_r}
use lib.Ieee.Positive.{num, den}
use lib.Ieee.Scale.{finite}
use Rattle.ieee.proofs.Packed.{pow_le_back}

place : (l : ℕ) (e : ℤ) → down e ≤ 2 ^ l → (j : ℕ) × (up e * 2 ^ l ≡ 2 ^ j * down e)
place l (pos a) h = (a + l, sym (pow-add 2 a l) ∙ sym (mul-one (2 ^ (a + l))))
place l (negsuc a) h = (l - suc a, one-mul (2 ^ l) ∙ ap (λ (x : ℕ). 2 ^ x) (sym (back l (suc a) (pow_le_back (suc a) l h))) ∙ pow-add 2 (l - suc a) (suc a))
  where
    back : (j s : ℕ) → s ≤ j → j - s + s ≡ j
    back j s h = omega arith

pub record Units (f : Format) (y : Float) : Type 0 where
  pub count : ℕ
  pub scale : ℕ
  pub few : count < 2 ^ prec f
  pub under : count * 2 ^ scale < 2 ^ (low f + suc (emax f))
  pub is : num y * 2 ^ low f ≡ count * 2 ^ scale * den y

pub in_units : (f : Format) (y : Float) → T (fits f y) → T (finite y) → Units f y
unfolding fits
in_units f nan h p = absurd p
in_units f (inf s) h p = absurd p
in_units f (fin s zero e) h p = record {
  count = 0;
  scale = 0;
  few = pow_pos (prec f);
  under = pow_pos (low f + suc (emax f));
  is = ap (λ (x : ℕ). x * 2 ^ low f) (zero-mul (up e)) ∙ zero-mul (2 ^ low f) ∙ sym (zero-mul (down e));
}
in_units f (fin s (suc m) e) h p =
    let A = eqb (suc m % 2) 1 in
    let B = ltb (suc m) (2 ^ prec f) in
    let C = leb (down e) (2 ^ low f) in
    let D = ltb (suc m * up e) (2 ^ suc (emax f) * down e) in
    let k = place (low f) e (leb→le (down e) (2 ^ low f) (and_r (A && B) C (and_l (A && B && C) D h))) in
    let v : suc m * up e * 2 ^ low f ≡ suc m * 2 ^ k.0 * down e = mul_assoc (suc m) (up e) (2 ^ low f) ∙ ap (λ (x : ℕ). suc m * x) k.1 ∙ sym (mul_assoc (suc m) (2 ^ k.0) (down e)) in
    record {
      count = suc m;
      scale = k.0;
      few = ltb→lt (suc m) (2 ^ prec f) (and_r A B (and_l (A && B) C (and_l (A && B && C) D h)));
      under =
          lt_of_mul-lt-mul_right (down e)
          (lt_of_le_of_lt (le_of_eq (sym v))
          (lt_of_lt_of_le (mul-lt-mul_of_pos_right (ltb→lt (suc m * up e) (2 ^ suc (emax f) * down e) (and_r (A && B && C) D h)) (pow_pos (low f)))
          (le_of_eq (mul_right_comm (2 ^ suc (emax f)) (down e) (2 ^ low f) ∙ ap (λ (x : ℕ). x * down e) (mul_comm (2 ^ suc (emax f)) (2 ^ low f) ∙ sym (pow-add 2 (low f) (suc (emax f))))))));
      is = v;
    }

-- c * 2 ^ j, with c below 2 ^ p, is a multiple of 2 ^ (g + 1), or it is below 2 ^ (p + g)
pub grid : (p g c j : ℕ) → c < 2 ^ p → ((y : ℕ) × (c * 2 ^ j ≡ y * (2 * 2 ^ g))) ⊎ (c * 2 ^ j < 2 ^ p * 2 ^ g)
grid p g c j C = go (leb (suc g) j) (leb→le (suc g) j) (λ n. le_of_suc-le-suc (nleb→lt (suc g) j n))
  where
    go : (b : Bool) → (T b → suc g ≤ j) → (T (not b) → j ≤ g) → ((y : ℕ) × (c * 2 ^ j ≡ y * (2 * 2 ^ g))) ⊎ (c * 2 ^ j < 2 ^ p * 2 ^ g)
    go true a b =
        inl (
          c * 2 ^ (j - suc g),
          ap (λ (x : ℕ). c * x) (ap (λ (x : ℕ). 2 ^ x) (sym (back j (suc g) (a tt))) ∙ pow-add 2 (j - suc g) (suc g) ∙ ap (λ (x : ℕ). 2 ^ (j - suc g) * x) (pow-succ' 2 g))
              ∙ sym (mul_assoc c (2 ^ (j - suc g)) (2 * 2 ^ g)),
        )
      where
        back : (j s : ℕ) → s ≤ j → j - s + s ≡ j
        back j s h = omega arith
    go false a b = inr (lt_of_lt_of_le (mul-lt-mul_of_pos_right C (pow_pos j)) (mul-le-mul (le_refl (2 ^ p)) (pow_mono (b tt))))
