-- What `round` keeps of n / c, in whole numbers: q = `kept` times 2 ^ k, with k = `drop`, is the nearest value of the format, or q is even. For every format. Assumes nothing.
-- A value of the format is b * 2 ^ j units, with b below 2 ^ prec.
use mathlib.Core.Path.{◌≡◌, sym, ap, ◌∙◌, subst}
use mathlib.Core.Logic.{◌⊎◌, inl, inr}
use Prim.Native.Nat.{ℕ, zero, suc, ◌+◌, ◌-◌, ◌*◌, ◌/◌, ◌%◌, ◌^◌, ◌≤◌, ◌<◌, compare, Ordering}
use native.Mathlib.Nat.{le_trans, le_of_eq, lt_of_lt_of_le, eq-zero-or-pos, suc-mul, mul-one, mul_assoc, mul_comm, mul-le-mul_right, mul-lt-mul_of_pos_right, mul-pos, pow-succ', le-div_iff_mul-le, div-div-eq-div-mul}
use native.Mathlib.Omega.{arith}
use lib.Pow.{pow-add, pow_pos}
use lib.Ieee.{size}
use lib.Ieee.Digits.{size_reaches}
use lib.Ieee.Fits.{kept-lt, nearest-le}
use lib.Ieee.Order.{drop, kept}
use Rattle.ieee_laws.specs.Nearest.{dist}
use Rattle.ieee.proofs.Packed.{twice_hid, Led}
use Rattle.ieee.proofs.Closest.{Cmp, cmp, Within, closest_ge}
use Rattle.ieee_laws.proofs.Units.{grid}

-- ---- whole numbers: of all multiples of u, q * u is the nearest to n, or q is even
abbrev pub Near : ℕ → ℕ → ℕ → Type 0 → Type 0
Near n a b E = (dist n a ≤ dist n b) × (dist n a ≡ dist n b → E)

near_multiple : (n u q a : ℕ) → 0 < u → Within n u q → Near n (q * u) (a * u) ((q ≡ a) ⊎ (q % 2 ≡ 0))
near_multiple n u q a U w = go (compare q a) (cmp q a)
  where
    go : (o : Ordering) → Cmp o q a → Near n (q * u) (a * u) ((q ≡ a) ⊎ (q % 2 ≡ 0))
    go Ordering.eq e = (le_of_eq (ap (λ (x : ℕ). dist n (x * u)) e), λ t. inl e)
    go Ordering.lt l =
        let k : q * u + u ≤ a * u = le_trans (le_of_eq (sym (suc-mul q u))) (mul-le-mul_right u l) in
        let lo : 2 * (q * u) ≤ 2 * n + u = w.low in
        let hi : 2 * n ≤ 2 * (q * u) + u = w.high in
        (omega arith, λ t. inr (w.even (inr (omega arith))))
    go Ordering.gt l =
        let k : a * u + u ≤ q * u = le_trans (le_of_eq (sym (suc-mul a u))) (mul-le-mul_right u l) in
        let lo : 2 * (q * u) ≤ 2 * n + u = w.low in
        let hi : 2 * n ≤ 2 * (q * u) + u = w.high in
        (omega arith, λ t. inr (w.even (inl (omega arith))))

-- ---- of all values of the format, q * 2 ^ k units is the nearest to n / c, or q is even
pub units_of : (q k c : ℕ) → q * 2 ^ k * c ≡ q * (c * 2 ^ k)
units_of q k c = mul_assoc q (2 ^ k) c ∙ ap (λ (x : ℕ). q * x) (mul_comm (2 ^ k) c)

abbrev pub Same : ℕ → ℕ → ℕ → Type 0
Same q R Y = (R ≡ Y) ⊎ (q % 2 ≡ 0)

module _ (n c q : ℕ) (C : 0 < c) where
  at_multiple : (k Y a : ℕ) → Within n (c * 2 ^ k) q → Y ≡ a * 2 ^ k → Near n (q * 2 ^ k * c) (Y * c) (Same q (q * 2 ^ k) Y)
  at_multiple k Y a w e =
      let h = near_multiple n (c * 2 ^ k) q a (mul-pos C (pow_pos k)) w in
      subst (λ (x : ℕ). Near n x (Y * c) (Same q (q * 2 ^ k) Y)) (sym (units_of q k c))
      (subst (λ (x : ℕ). Near n (q * (c * 2 ^ k)) x (Same q (q * 2 ^ k) Y)) (sym (ap (λ (x : ℕ). x * c) e ∙ units_of a k c))
      (h.0, λ t. elim (h.1 t) [ inl g ↦ inl (ap (λ (x : ℕ). x * 2 ^ k) g ∙ sym e) | inr g ↦ inr g ]))

  -- a value below a multiple that is itself below n / c
  at_lower : (k Y H : ℕ) → Within n (c * 2 ^ k) q → Y < H * 2 ^ k → H * (c * 2 ^ k) ≤ n → Near n (q * 2 ^ k * c) (Y * c) (Same q (q * 2 ^ k) Y)
  at_lower k Y H w l g =
      let h : dist n (q * (c * 2 ^ k)) ≤ dist n (H * (c * 2 ^ k)) = (near_multiple n (c * 2 ^ k) q H (mul-pos C (pow_pos k)) w).0 in
      let y : Y * c < H * (c * 2 ^ k) = lt_of_lt_of_le (mul-lt-mul_of_pos_right l C) (le_of_eq (units_of H k c)) in
      subst (λ (x : ℕ). Near n x (Y * c) (Same q (q * 2 ^ k) Y)) (sym (units_of q k c)) (omega arith, λ t. absurd (omega arith))

  pub near_value : (p k b j : ℕ) → 2 ≤ p → Within n (c * 2 ^ k) q → (k ≡ 0) ⊎ (2 ^ (p - 1) * (c * 2 ^ k) ≤ n) → b < 2 ^ p → Near n (q * 2 ^ k * c) (b * 2 ^ j * c) (Same q (q * 2 ^ k) (b * 2 ^ j))
  near_value p zero b j P w L B = at_multiple 0 (b * 2 ^ j) (b * 2 ^ j) w (sym (mul-one (b * 2 ^ j)))
  near_value p (suc g) b j P w (inl z) B = absurd (omega arith)
  near_value p (suc g) b j P w (inr L) B = go (grid p g b j B)
    where
      go : ((y : ℕ) × (b * 2 ^ j ≡ y * (2 * 2 ^ g))) ⊎ (b * 2 ^ j < 2 ^ p * 2 ^ g) → Near n (q * 2 ^ suc g * c) (b * 2 ^ j * c) (Same q (q * 2 ^ suc g) (b * 2 ^ j))
      go (inl y) = at_multiple (suc g) (b * 2 ^ j) y.0 w (y.1 ∙ ap (λ (x : ℕ). y.0 * x) (sym (pow-succ' 2 g)))
      go (inr l) =
          at_lower (suc g) (b * 2 ^ j) (2 ^ (p - 1)) w
          (lt_of_lt_of_le l (le_of_eq (ap (λ (x : ℕ). x * 2 ^ g) (twice_hid p P ∙ mul_comm 2 (2 ^ (p - 1))) ∙ mul_assoc (2 ^ (p - 1)) 2 (2 ^ g) ∙ ap (λ (x : ℕ). 2 ^ (p - 1) * x) (sym (pow-succ' 2 g))))) L

-- ---- what `round` keeps: q = `kept` and k = `drop`
pub kept_le : (p n c : ℕ) → kept p n c ≤ 2 ^ p
kept_le p n c =
    let u = c * 2 ^ drop p n c in
    le_trans (nearest-le (n / u) (compare (n % u * 2) u)) (subst (λ (x : ℕ). x < 2 ^ p) (div-div-eq-div-mul n c (2 ^ drop p n c)) (kept-lt p (n / c)))

-- where digits are dropped, all of the format's are in use
pub reached : (p n c : ℕ) → 2 ≤ p → 0 < c → (drop p n c ≡ 0) ⊎ (2 ^ (p - 1) * (c * 2 ^ drop p n c) ≤ n)
reached p n c P C = elim (eq-zero-or-pos (drop p n c)) [ inl z ↦ inl z | inr l ↦ inr (at l) ]
  where
    in_use : (z p : ℕ) → 2 ≤ p → 0 < z - p → p - 1 + (z - p) < z
    in_use z p P h = omega arith

    at : 0 < drop p n c → 2 ^ (p - 1) * (c * 2 ^ drop p n c) ≤ n
    at l =
        let k = drop p n c in
        le_trans (le_of_eq (sym (units_of (2 ^ (p - 1)) k c) ∙ ap (λ (x : ℕ). x * c) (sym (pow-add 2 (p - 1) k)))) ((le-div_iff_mul-le C).0 (size_reaches (n / c) (p - 1 + k) (in_use (size (n / c)) p P l)))

pub led : (p n c : ℕ) → 2 ≤ p → 0 < c → Led p (kept p n c) (drop p n c)
led p n c P C =
    elim (reached p n c P C) [
      | inl z ↦ inl z
      | inr l ↦ inr (le_trans ((le-div_iff_mul-le (mul-pos C (pow_pos (drop p n c)))).1 l) (closest_ge n (c * 2 ^ drop p n c)))
    ]
