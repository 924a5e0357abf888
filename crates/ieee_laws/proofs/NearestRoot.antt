-- `sqrt f x` is the value of the format f nearest to the root of x, for every format f and every x of it above zero. Assumes nothing.
-- In units of the format's smallest value x is the square root of a whole number N, the result is P units, and any value y of the format is Y units, a multiple of 2 ^ j with fewer than 2 ^ prec of them.
use mathlib.Core.Path.{◌≡◌, refl, sym, ap, ◌∙◌, subst}
use mathlib.Core.Logic.{◌⊎◌, inl, inr}
use Prim.Native.Nat.{ℕ, zero, suc, ◌+◌, ◌-◌, ◌*◌, ◌/◌, ◌%◌, ◌^◌, ◌≤◌, ◌<◌}
use native.Mathlib.Nat.{zero-mul, mul-one, add-zero, zero-lt-suc, le_trans, le_of_eq, le_of_lt, le_refl, lt_of_lt_of_le, lt_of_le_of_lt, lt_of_not-le, not-le_of_lt, eq-zero-or-pos, mul_assoc, mul_comm, mul_right_comm, mul-mul-mul_comm, add-mul, mul-le-mul, mul-le-mul_right, mul-lt-mul_of_pos_right, lt_of_mul-lt-mul_right, mul-pos, pow-succ'}
use native.Mathlib.Omega.{arith}
use mathlib.Core.Bool.{Bool, true, false, not}
use lib.IntN.{ℤ, pos}
use lib.Dec.{T, lt→ltb, ltb→lt, lit≤}
use lib.Arith.{lt_of_le-ne}
use lib.Pow.{pow-add, pow_pos, shl_lt}
use lib.Ieee.{Float, nan, inf, fin, Format, binary32, binary64, prec, emax, low, up, down, size, units, fits, lt, hid, ones}
use lib.Ieee.Digits.{size-lt, size_reaches, size-le}
use lib.Ieee.Fits.{two, up_pos, down_pos}
use lib.Ieee.Exact.{HasValue, units_val}
use lib.Ieee.Scale.{finite}
use lib.Ieee.Positive.{positive-finite, num, den, den_pos, positive, value→cross, value_pos, first_pos, positive_of_value}
use Rattle.ieee_sqrt.specs.Sqrt.{isqrt, rooted, sqrt}
use Rattle.ieee_laws.specs.Nearest.{sq, total, NearestRoot}
use Rattle.ieee.proofs.Packed.{pow_lt_back, twice_hid, reaches}
use Rattle.ieee_laws.proofs.Units.{Units, in_units, grid}
use Rattle.ieee_laws.proofs.Exact.{sqrt_fits}
use Rattle.ieee_sqrt.proofs.Isqrt.{IsRoot, isqrt_is}
use Rattle.ieee_sqrt.proofs.Rooting.{rooted_units, as_even, as_scaled, root_low, root_high, odd_inexact, far, four_hid, half_le, half_ge, big}
use Rattle.ieee_sqrt.proofs.Radicands.{sqrt_of_value}

-- ---- squares
sq_lt : (a b : ℕ) → a < b → a * a < b * b
sq_lt a b h = lt_of_le_of_lt (mul-le-mul (le_refl a) (le_of_lt h)) (mul-lt-mul_of_pos_right h (pos_of a b h))
  where
    pos_of : (a b : ℕ) → a < b → 0 < b
    pos_of a b h = omega arith

sq_le : (a b : ℕ) → a ≤ b → a * a ≤ b * b
sq_le a b h = mul-le-mul h h

-- ---- whole numbers: t is the root of n, and N is n * G * G. D is below 2 * t * G, or above
under_root : (n t G D : ℕ) → t * t ≤ n → D < 2 * (t * G) → D * D < 4 * (n * (G * G))
under_root n t G D h l =
    lt_of_lt_of_le (sq_lt D (2 * (t * G)) l)
    (le_trans (le_of_eq (quad t G)) (times4 (t * t * (G * G)) (n * (G * G)) (mul-le-mul_right (G * G) h)))
  where
    quad : (t G : ℕ) → 2 * (t * G) * (2 * (t * G)) ≡ 4 * (t * t * (G * G))
    quad t G = omega arith

    times4 : (a b : ℕ) → a ≤ b → 4 * a ≤ 4 * b
    times4 a b h = omega arith

at_root : (n t G D : ℕ) → 0 < G → t * t < n → D ≤ 2 * (t * G) → D * D < 4 * (n * (G * G))
at_root n t G D P h l =
    lt_of_le_of_lt (sq_le D (2 * (t * G)) l)
    (lt_of_le_of_lt (le_of_eq (quad t G)) (times4 (t * t * (G * G)) (n * (G * G)) (mul-lt-mul_of_pos_right h (mul-pos P P))))
  where
    quad : (t G : ℕ) → 2 * (t * G) * (2 * (t * G)) ≡ 4 * (t * t * (G * G))
    quad t G = omega arith

    times4 : (a b : ℕ) → a < b → 4 * a < 4 * b
    times4 a b h = omega arith

above_root : (n t G D : ℕ) → 0 < G → n < (t + 1) * (t + 1) → 2 * ((t + 1) * G) ≤ D → 4 * (n * (G * G)) < D * D
above_root n t G D P h l =
    lt_of_lt_of_le (lt_of_lt_of_le (times4 (n * (G * G)) ((t + 1) * (t + 1) * (G * G)) (mul-lt-mul_of_pos_right h (mul-pos P P))) (le_of_eq (sym (quad (t + 1) G)))) (sq_le (2 * ((t + 1) * G)) D l)
  where
    quad : (t G : ℕ) → 2 * (t * G) * (2 * (t * G)) ≡ 4 * (t * t * (G * G))
    quad t G = omega arith

    times4 : (a b : ℕ) → a < b → 4 * a < 4 * b
    times4 a b h = omega arith

-- ---- the result is P = (t + 1) / 2 * (2 * G) units
parity : (t : ℕ) → ((a : ℕ) × (t ≡ 2 * a)) ⊎ ((a : ℕ) × (t ≡ 2 * a + 1))
parity t = go (eq-zero-or-pos (t % 2))
  where
    go : (t % 2 ≡ 0) ⊎ (0 < t % 2) → ((a : ℕ) × (t ≡ 2 * a)) ⊎ ((a : ℕ) × (t ≡ 2 * a + 1))
    go (inl z) = inl (t / 2, omega arith)
    go (inr z) = inr (t / 2, omega arith)

half_even : (a : ℕ) → (2 * a + 1) / 2 ≡ a
half_even a = omega arith

half_odd : (a : ℕ) → (2 * a + 1 + 1) / 2 ≡ a + 1
half_odd a = omega arith

cancel_lt : (a b u : ℕ) → a * u < b * u → a < b
cancel_lt a b u h = lt_of_mul-lt-mul_right u h

odd_value : (a : ℕ) → (2 * a + 1) % 2 ≡ 1
odd_value a = omega arith

-- 2 ^ p is even, so that an odd t from it on is above it
past_power : (a p : ℕ) → 1 ≤ p → 2 ^ p ≤ 2 * a + 1 → 2 ^ p ≤ 2 * a
past_power a (suc p) h l = let e : 2 ^ suc p ≡ 2 * 2 ^ p = pow-succ' 2 p in omega arith
past_power a zero h l = absurd (omega arith)

module _ (p g m c j : ℕ) (P : 1 ≤ p) (C : c < 2 ^ p) where
  below_even : (a : ℕ) → IsRoot (2 * a) (2 * m) → c * 2 ^ j < a * (2 * 2 ^ g) → (a * (2 * 2 ^ g) + c * 2 ^ j) * (a * (2 * 2 ^ g) + c * 2 ^ j) < 4 * (2 * m * (2 ^ g * 2 ^ g))
  below_even a is l =
      let e : a * (2 * 2 ^ g) ≡ 2 * a * 2 ^ g = omega arith in
      under_root (2 * m) (2 * a) (2 ^ g) (a * (2 * 2 ^ g) + c * 2 ^ j) is.0 (omega arith)

  below_odd : (a : ℕ) → IsRoot (2 * a + 1) (2 * m) → 2 ^ p ≤ 2 * a + 1 → c * 2 ^ j < (a + 1) * (2 * 2 ^ g)
      → ((a + 1) * (2 * 2 ^ g) + c * 2 ^ j) * ((a + 1) * (2 * 2 ^ g) + c * 2 ^ j) < 4 * (2 * m * (2 ^ g * 2 ^ g))
  below_odd a is b l =
      at_root (2 * m) (2 * a + 1) (2 ^ g) ((a + 1) * (2 * 2 ^ g) + c * 2 ^ j) (pow_pos g)
      (lt_of_le-ne is.0 (λ (e : (2 * a + 1) * (2 * a + 1) ≡ 2 * m). odd_inexact (2 * a + 1) m (odd_value a) e))
      (room (grid p g c j C))
    where
      room : ((y : ℕ) × (c * 2 ^ j ≡ y * (2 * 2 ^ g))) ⊎ (c * 2 ^ j < 2 ^ p * 2 ^ g) → (a + 1) * (2 * 2 ^ g) + c * 2 ^ j ≤ 2 * ((2 * a + 1) * 2 ^ g)
      room (inl y) =
          let k : y.0 < a + 1 = cancel_lt y.0 (a + 1) (2 * 2 ^ g) (lt_of_le_of_lt (le_of_eq (sym y.1)) l) in
          let w : y.0 * (2 * 2 ^ g) ≤ a * (2 * 2 ^ g) = mul-le-mul_right (2 * 2 ^ g) (omega arith) in
          let e = y.1 in
          omega arith
      room (inr k) =
          let w : 2 ^ p * 2 ^ g ≤ 2 * a * 2 ^ g = mul-le-mul_right (2 ^ g) (past_power a p P b) in
          omega arith

  above_odd : (a : ℕ) → IsRoot (2 * a + 1) (2 * m) → (a + 1) * (2 * 2 ^ g) < c * 2 ^ j → 4 * (2 * m * (2 ^ g * 2 ^ g)) < ((a + 1) * (2 * 2 ^ g) + c * 2 ^ j) * ((a + 1) * (2 * 2 ^ g) + c * 2 ^ j)
  above_odd a is l =
      let e : (a + 1) * (2 * 2 ^ g) ≡ (2 * a + 1 + 1) * 2 ^ g = omega arith in
      above_root (2 * m) (2 * a + 1) (2 ^ g) ((a + 1) * (2 * 2 ^ g) + c * 2 ^ j) (pow_pos g) is.1 (omega arith)

  above_even : (a : ℕ) → IsRoot (2 * a) (2 * m) → 2 ^ p ≤ 2 * a → a * (2 * 2 ^ g) < c * 2 ^ j → 4 * (2 * m * (2 ^ g * 2 ^ g)) < (a * (2 * 2 ^ g) + c * 2 ^ j) * (a * (2 * 2 ^ g) + c * 2 ^ j)
  above_even a is b l = above_root (2 * m) (2 * a) (2 ^ g) (a * (2 * 2 ^ g) + c * 2 ^ j) (pow_pos g) is.1 (room (grid p g c j C))
    where
      room : ((y : ℕ) × (c * 2 ^ j ≡ y * (2 * 2 ^ g))) ⊎ (c * 2 ^ j < 2 ^ p * 2 ^ g) → 2 * ((2 * a + 1) * 2 ^ g) ≤ a * (2 * 2 ^ g) + c * 2 ^ j
      room (inl y) =
          let k : a < y.0 = cancel_lt a y.0 (2 * 2 ^ g) (lt_of_lt_of_le l (le_of_eq y.1)) in
          let w : (a + 1) * (2 * 2 ^ g) ≤ y.0 * (2 * 2 ^ g) = mul-le-mul_right (2 * 2 ^ g) (omega arith) in
          let e = y.1 in
          omega arith
      room (inr k) =
          let w : 2 ^ p * 2 ^ g ≤ 2 * a * 2 ^ g = mul-le-mul_right (2 ^ g) b in
          absurd (omega arith)

  -- both, for any t
  abbrev Near : ℕ → Type 0
  Near w = (c * 2 ^ j < w → (w + c * 2 ^ j) * (w + c * 2 ^ j) < 4 * (2 * m * (2 ^ g * 2 ^ g))) × (w < c * 2 ^ j → 4 * (2 * m * (2 ^ g * 2 ^ g)) < (w + c * 2 ^ j) * (w + c * 2 ^ j))

  near_units : (t : ℕ) → IsRoot t (2 * m) → 2 ^ p ≤ t → Near ((t + 1) / 2 * (2 * 2 ^ g))
  near_units t is b = go (parity t)
    where
      go : ((a : ℕ) × (t ≡ 2 * a)) ⊎ ((a : ℕ) × (t ≡ 2 * a + 1)) → Near ((t + 1) / 2 * (2 * 2 ^ g))
      go (inl k) =
          let a = k.0 in
          let is' : IsRoot (2 * a) (2 * m) = subst (λ (x : ℕ). IsRoot x (2 * m)) k.1 is in
          subst (λ (x : ℕ). Near (x * (2 * 2 ^ g))) (sym (ap (λ (x : ℕ). (x + 1) / 2) k.1 ∙ half_even a)) (below_even a is', above_even a is' (subst (λ (x : ℕ). 2 ^ p ≤ x) k.1 b))
      go (inr k) =
          let a = k.0 in
          let is' : IsRoot (2 * a + 1) (2 * m) = subst (λ (x : ℕ). IsRoot x (2 * m)) k.1 is in
          subst (λ (x : ℕ). Near (x * (2 * 2 ^ g))) (sym (ap (λ (x : ℕ). (x + 1) / 2) k.1 ∙ half_odd a)) (below_odd a is' (subst (λ (x : ℕ). 2 ^ p ≤ x) k.1 b), above_odd a is')

-- ---- from units to fractions: r = A / a is P units, y = B / b is Y units, and x = X / c has N under the root; L is 2 ^ low
module _ (A a B b X c P Y N L : ℕ) (L-pos : 0 < L) (a-pos : 0 < a) (b-pos : 0 < b) (c_pos : 0 < c) (r_is : A * L ≡ P * a) (y-is : B * L ≡ Y * b) (x-is : X * L * L ≡ N * c) where
  W : ℕ
  W = sq (a * b) * c

  W_pos : 0 < W
  unfolding W
  W_pos = mul-pos (mul-pos (mul-pos a-pos b-pos) (mul-pos a-pos b-pos)) c_pos

  y_scaled : B * a * L ≡ Y * (a * b)
  y_scaled = mul_right_comm B a L ∙ ap (λ (z : ℕ). z * a) y-is ∙ omega arith

  r_scaled : A * b * L ≡ P * (a * b)
  r_scaled = mul_right_comm A b L ∙ ap (λ (z : ℕ). z * b) r_is ∙ omega arith

  order_below : B * a < A * b → Y < P
  order_below h = lt_of_mul-lt-mul_right (a * b) (lt_of_le_of_lt (le_of_eq (sym y_scaled)) (lt_of_lt_of_le (mul-lt-mul_of_pos_right h L-pos) (le_of_eq r_scaled)))

  order_above : A * b < B * a → P < Y
  order_above h = lt_of_mul-lt-mul_right (a * b) (lt_of_le_of_lt (le_of_eq (sym r_scaled)) (lt_of_lt_of_le (mul-lt-mul_of_pos_right h L-pos) (le_of_eq y_scaled)))

  sum_scaled : sq (A * b + B * a) * c * (L * L) ≡ (P + Y) * (P + Y) * W
  unfolding W
  sum_scaled =
      mul_right_comm (sq (A * b + B * a)) c (L * L)
      ∙ ap (λ (z : ℕ). z * c) (mul-mul-mul_comm (A * b + B * a) (A * b + B * a) L L ∙ ap sq (add-mul (A * b) (B * a) L ∙ ap (λ (z : ℕ). z + B * a * L) r_scaled ∙ ap (λ (z : ℕ). P * (a * b) + z) y_scaled ∙ sym (add-mul P Y (a * b))))
      ∙ ap (λ (z : ℕ). z * c) (mul-mul-mul_comm (P + Y) (a * b) (P + Y) (a * b))
      ∙ mul_assoc ((P + Y) * (P + Y)) (sq (a * b)) c

  x_scaled : 4 * X * sq (a * b) * (L * L) ≡ 4 * N * W
  unfolding W
  x_scaled =
      mul_right_comm (4 * X) (sq (a * b)) (L * L)
      ∙ ap (λ (z : ℕ). z * sq (a * b)) (mul_assoc 4 X (L * L) ∙ ap (λ (z : ℕ). 4 * z) (sym (mul_assoc X L L) ∙ x-is) ∙ sym (mul_assoc 4 N c))
      ∙ mul_assoc (4 * N) c (sq (a * b))
      ∙ ap (λ (z : ℕ). 4 * N * z) (mul_comm c (sq (a * b)))

  squares_below : (P + Y) * (P + Y) < 4 * N → sq (A * b + B * a) * c < 4 * X * sq (a * b)
  squares_below h = lt_of_mul-lt-mul_right (L * L) (lt_of_le_of_lt (le_of_eq sum_scaled) (lt_of_lt_of_le (mul-lt-mul_of_pos_right h W_pos) (le_of_eq (sym x_scaled))))

  squares_above : 4 * N < (P + Y) * (P + Y) → 4 * X * sq (a * b) < sq (A * b + B * a) * c
  squares_above h = lt_of_mul-lt-mul_right (L * L) (lt_of_le_of_lt (le_of_eq x_scaled) (lt_of_lt_of_le (mul-lt-mul_of_pos_right h W_pos) (le_of_eq (sym sum_scaled))))

-- ---- the digits of x moved up to `prec`, and the parity of the scale
room : (f : Format) → (prec f + 4 ≤ emax f) × (2 ≤ prec f)
room binary32 = (lit≤ tt, lit≤ tt)
room binary64 = (lit≤ tt, lit≤ tt)

-- c * 2 ^ s is q * 2 ^ (s - z), with q of p digits
pub record Moved (p c s : ℕ) : Type 0 where
  pub q : ℕ
  pub z : ℕ
  pub short : z < p
  pub leading : 2 ^ (p - 1) ≤ q
  pub within : q < 2 ^ p
  pub same : q * 2 ^ (s - z) ≡ c * 2 ^ s

moved : (p c s : ℕ) → 0 < c → c < 2 ^ p → p ≤ s → Moved p c s
moved p c s C H S =
    let w : size c ≤ p = size-le c p H in
    let l : 0 < size c = pow_lt_back 0 (size c) (lt_of_le_of_lt C (size-lt c)) in
    let a : 2 ^ (size c - 1) ≤ c = size_reaches c (size c - 1) (omega arith) in
    let z = p - size c in
    let e : size c - 1 + z ≡ p - 1 = omega arith in
    let t : size c + z ≡ p = omega arith in
    record {
      q = c * 2 ^ z;
      z = z;
      short = omega arith;
      leading = le_trans (le_of_eq (ap (λ (x : ℕ). 2 ^ x) (sym e) ∙ pow-add 2 (size c - 1) z)) (mul-le-mul_right (2 ^ z) a);
      within = lt_of_lt_of_le (shl_lt (size c) z (size-lt c)) (le_of_eq (ap (λ (x : ℕ). 2 ^ x) t));
      same = mul_assoc c (2 ^ z) (2 ^ (s - z)) ∙ ap (λ (x : ℕ). c * x) (sym (pow-add 2 z (s - z)) ∙ ap (λ (x : ℕ). 2 ^ x) (join z s (omega arith)));
    }
  where
    join : (z s : ℕ) → z ≤ s → z + (s - z) ≡ s
    join z s h = omega arith

-- j is p + 1 or p + 2, and an even number more
pub record Paired (p j : ℕ) : Type 0 where
  pub o : ℕ
  pub g : ℕ
  pub one : o ≤ 1
  pub sum : j ≡ suc (p + o) + (g + g)

paired : (p j : ℕ) → p + 2 ≤ j → Paired p j
paired p j h = record { o = (j + p + 1) % 2; g = (j - p - 1) / 2 - ((j + p + 1) % 2 - (j - p - 1) % 2); one = omega arith; sum = omega arith }

-- ---- what `sqrt` does with x, in units
pub record Shape (f : Format) (x : Float) : Type 0 where
  pub m : ℕ
  pub t : ℕ
  pub g : ℕ
  pub is : IsRoot t (2 * m)
  pub top : 2 ^ prec f ≤ t
  pub value : HasValue (sqrt f x) false ((t + 1) / 2 * 2 ^ suc g) (2 ^ low f)
  pub under : num x * 2 ^ low f * 2 ^ low f ≡ 2 * m * (2 ^ g * 2 ^ g) * den x

-- finite, with the sign clear
abbrev plain : Float → Bool
plain nan = false
plain (inf s) = false
plain (fin s m e) = not s

plain_finite : (x : Float) → T (plain x) → T (finite x)
plain_finite nan p = absurd p
plain_finite (inf s) p = absurd p
plain_finite (fin s m e) p = tt

positive_plain : (x : Float) → T (positive x) → T (plain x)
positive_plain nan p = absurd p
positive_plain (inf s) p = absurd p
positive_plain (fin true m e) p = absurd p
positive_plain (fin false m e) p = tt

own : (x : Float) (a c : ℕ) → T (plain x) → num x * c ≡ a * den x → HasValue x false a c
own nan a c p h = absurd p
own (inf s) a c p h = absurd p
own (fin true m e) a c p h = absurd p
own (fin false m e) a c p h = (refl, h)

count_pos : (x : Float) (a c : ℕ) → T (positive x) → num x * c ≡ a * den x → 0 < c → 0 < a
count_pos x a c p h C = value_pos x a c p C (own x a c (positive_plain x p) h)

factor_pos : (a b : ℕ) → 0 < a * b → 0 < a
factor_pos a b h = first_pos a b h

-- the scale is small enough that the root does not overflow
limit : (f : Format) (q j N : ℕ) → 2 ^ (prec f - 1) ≤ q → q * 2 ^ j ≡ N * 2 ^ low f → N < 2 ^ (low f + suc (emax f)) → j ≤ 2 * emax f + low f
limit f q j N Q e h =
    let r = room f in
    let k : prec f - 1 + j < low f + suc (emax f) + low f =
    pow_lt_back (prec f - 1 + j) (low f + suc (emax f) + low f)
    (lt_of_le_of_lt (le_of_eq (pow-add 2 (prec f - 1) j))
    (lt_of_le_of_lt (mul-le-mul_right (2 ^ j) Q)
    (lt_of_le_of_lt (le_of_eq e) (lt_of_lt_of_le (mul-lt-mul_of_pos_right h (pow_pos (low f))) (le_of_eq (sym (pow-add 2 (low f + suc (emax f)) (low f)))))))) in
    omega arith

shaped : (f : Format) (x : Float) → T (fits f x) → T (positive x) → Shape f x
shaped f x h p =
    let r = room f in
    let P = prec f in
    let l = low f in
    let u = in_units f x h (positive-finite x p) in
    let c = u.count in
    let s = u.scale in
    let N = c * 2 ^ s in
    let N_pos : 0 < N = count_pos x N (2 ^ l) p u.is (pow_pos l) in
    let d = moved P c (s + l) (factor_pos c (2 ^ s) N_pos) u.few (omega arith) in
    let q = d.q in
    let j = s + l - d.z in
    let same : q * 2 ^ j ≡ N * 2 ^ l = d.same ∙ ap (λ (y : ℕ). c * y) (pow-add 2 s l) ∙ sym (mul_assoc c (2 ^ s) (2 ^ l)) in
    let sh : d.z < P = d.short in
    let k = paired P j (omega arith) in
    let L : j ≤ 2 * emax f + low f = limit f q j N d.leading same u.under in
    let t = isqrt (q * 2 ^ suc (P + k.o)) in
    let is0 : IsRoot t (q * 2 ^ suc (P + k.o)) = isqrt_is (q * 2 ^ suc (P + k.o)) in
    let m = q * 2 ^ (P + k.o) in
    let is : IsRoot t (2 * m) = subst (λ (y : ℕ). IsRoot t y) (as_even q (P + k.o)) is0 in
    let lo : 2 ^ P ≤ t = root_low P q k.o t (two f) d.leading is0 in
    let hi : t < 2 ^ suc P = root_high P q k.o t d.within k.one is0 in
    let S : 2 * m * (2 ^ k.g * 2 ^ k.g) ≡ N * 2 ^ l = as_scaled q (P + k.o) j k.g k.sum ∙ same in
    let w : suc k.g * hid f + (t + 1) / 2 < ones f * hid f = far (emax f) P j k.o k.g (hid f) t (big f) (two f) (pow_pos (P - 1)) (lt_of_lt_of_le hi (le_of_eq (four_hid P (two f)))) L k.sum in
    let fine : (t + 1) / 2 * 2 ^ suc k.g < 2 ^ (l + suc (emax f)) =
    lt_of_not-le (λ (v : 2 ^ (l + suc (emax f)) ≤ (t + 1) / 2 * 2 ^ suc k.g).
    not-le_of_lt w
    (reaches (emax f) P ((t + 1) / 2) (suc k.g) (le_trans (lit≤ tt) (big f)) (two f) (half_le t (2 ^ P) (lt_of_lt_of_le hi (le_of_eq (pow-succ' 2 P))))
    (inr (half_ge t (hid f) (le_trans (le_of_eq (sym (twice_hid P (two f)))) lo))) v)) in
    let is_units : sqrt f x ≡ units f false ((t + 1) / 2) (suc k.g) =
    sqrt_of_value f x N (own x N (2 ^ l) (positive_plain x p) u.is) N_pos ∙ ap (rooted f) (sym S) ∙ rooted_units f m t k.g is lo hi in
    record {
      m = m;
      t = t;
      g = k.g;
      is = is;
      top = lo;
      value = subst (λ (y : Float). HasValue y false ((t + 1) / 2 * 2 ^ suc k.g) (2 ^ l)) (sym is_units) (units_val f false ((t + 1) / 2) (suc k.g) fine);
      under = ap (λ (y : ℕ). y * 2 ^ l) u.is ∙ mul_right_comm N (den x) (2 ^ l) ∙ ap (λ (y : ℕ). y * den x) (sym S);
    }

-- ---- the theorem, for a y with the sign clear
value_plain : (x : Float) (a c : ℕ) → HasValue x false a c → T (plain x)
value_plain nan a c h = absurd h
value_plain (inf s) a c h = absurd h
value_plain (fin s m e) a c h = subst (λ (b : Bool). T (not b)) (sym h.0) tt

lt_cross : (x y : Float) → T (plain x) → T (plain y) → T (lt x y) → num x * den y < num y * den x
unfolding lt
lt_cross nan y p q h = absurd p
lt_cross (inf s) y p q h = absurd p
lt_cross (fin true m e) y p q h = absurd p
lt_cross (fin false m e) nan p q h = absurd q
lt_cross (fin false m e) (inf t) p q h = absurd q
lt_cross (fin false m e) (fin true n d) p q h = absurd q
lt_cross (fin false m e) (fin false n d) p q h = ltb→lt (m * up e * down d) (n * up d * down e) h

abbrev middle : Float → Float → ℕ
middle r y = num r * den y + num y * den r

module _ (f : Format) (x : Float) (h : T (fits f x)) (p : T (positive x)) (s : Shape f x) where
  abbrev r : Float
  r = sqrt f x

  abbrev Q : ℕ
  Q = (s.t + 1) / 2 * (2 * 2 ^ s.g)

  abbrev N : ℕ
  N = 2 * s.m * (2 ^ s.g * 2 ^ s.g)

  r_plain : T (plain r)
  r_plain = value_plain r ((s.t + 1) / 2 * 2 ^ suc s.g) (2 ^ low f) s.value

  r_positive : T (positive r)
  r_positive = positive_of_value r ((s.t + 1) / 2 * 2 ^ suc s.g) (2 ^ low f) s.value (mul-pos (half s.t (lt_of_lt_of_le (pow_pos (prec f)) s.top)) (pow_pos (suc s.g)))
    where
      half : (t : ℕ) → 0 < t → 0 < (t + 1) / 2
      half t l = omega arith

  r_is : num r * 2 ^ low f ≡ Q * den r
  r_is = value→cross r ((s.t + 1) / 2 * 2 ^ suc s.g) (2 ^ low f) s.value ∙ ap (λ (y : ℕ). (s.t + 1) / 2 * y * den r) (pow-succ' 2 s.g)

  module _ (y : Float) (fy : T (fits f y)) (py : T (plain y)) where
    abbrev u : Units f y
    u = in_units f y fy (plain_finite y py)

    near : Near (prec f) s.g s.m u.count u.scale (omega (arith, two f)) u.few Q
    near = near_units (prec f) s.g s.m u.count u.scale (omega (arith, two f)) u.few s.t s.is s.top

    plain_below : T (lt y r) → sq (middle r y) * den x < 4 * num x * sq (den r * den y)
    plain_below l =
        squares_below (num r) (den r) (num y) (den y) (num x) (den x) Q (u.count * 2 ^ u.scale) N (2 ^ low f) (pow_pos (low f)) (den_pos r) (den_pos y) (den_pos x) r_is u.is s.under
        (near.0 (order_below (num r) (den r) (num y) (den y) (num x) (den x) Q (u.count * 2 ^ u.scale) N (2 ^ low f) (pow_pos (low f)) (den_pos r) (den_pos y) (den_pos x) r_is u.is s.under (lt_cross y r py r_plain l)))

    plain_above : T (lt r y) → 4 * num x * sq (den r * den y) < sq (middle r y) * den x
    plain_above l =
        squares_above (num r) (den r) (num y) (den y) (num x) (den x) Q (u.count * 2 ^ u.scale) N (2 ^ low f) (pow_pos (low f)) (den_pos r) (den_pos y) (den_pos x) r_is u.is s.under
        (near.1 (order_above (num r) (den r) (num y) (den y) (num x) (den x) Q (u.count * 2 ^ u.scale) N (2 ^ low f) (pow_pos (low f)) (den_pos r) (den_pos y) (den_pos x) r_is u.is s.under (lt_cross r y r_plain py l)))

-- ---- and for a y below 0, which is further off than 0 is
zero_fits : (f : Format) → T (fits f (fin false 0 (pos 0)))
unfolding fits
zero_fits f = tt

zero_lt : (r : Float) → T (positive r) → T (lt (fin false 0 (pos 0)) r)
unfolding lt
zero_lt nan p = absurd p
zero_lt (inf s) p = absurd p
zero_lt (fin true m e) p = absurd p
zero_lt (fin false zero e) p = absurd p
zero_lt (fin false (suc m) e) p =
    lt→ltb (0 * 2 ^ 0 * down e) (suc m * up e * 1)
    (lt_of_le_of_lt (le_of_eq (ap (λ (z : ℕ). z * down e) (zero-mul (2 ^ 0)) ∙ zero-mul (down e))) (mul-pos (mul-pos (zero-lt-suc m) (up_pos e)) (zero-lt-suc 0)))

not_under : (r : Float) (n : ℕ) (d : ℤ) → T (positive r) → T (lt r (fin true n d)) → ⊥
unfolding lt
not_under nan n d p l = p
not_under (inf s) n d p l = p
not_under (fin true m e) n d p l = p
not_under (fin false m e) n d p l = l

-- A / a is below twice the root of X / c, so less of it is
further : (A a X c B b : ℕ) → 0 < b → sq (A * 1 + 0 * 2 ^ 0 * a) * c < 4 * X * sq (a * 1) → sq (A * b - B * a) * c < 4 * X * sq (a * b)
further A a X c B b b-pos h =
    lt_of_le_of_lt (mul-le-mul_right c (sq_le (A * b - B * a) (A * b) (less (A * b) (B * a))))
    (lt_of_le_of_lt (le_of_eq (ap (λ (z : ℕ). z * c) (mul-mul-mul_comm A b A b) ∙ mul_right_comm (A * A) (b * b) c))
    (lt_of_lt_of_le (mul-lt-mul_of_pos_right (subst (λ (z : ℕ). sq z * c < 4 * X * sq a) (plus_zero A a) (subst (λ (z : ℕ). sq (A * 1 + 0 * 2 ^ 0 * a) * c < 4 * X * sq z) (mul-one a) h)) (mul-pos b-pos b-pos))
    (le_of_eq (mul_assoc (4 * X) (a * a) (b * b) ∙ ap (λ (z : ℕ). 4 * X * z) (mul-mul-mul_comm a a b b)))))
  where
    less : (x y : ℕ) → x - y ≤ x
    less x y = omega arith

    plus_zero : (A a : ℕ) → A * 1 + 0 * 2 ^ 0 * a ≡ A
    plus_zero A a = ap (λ (z : ℕ). A * 1 + z) (ap (λ (z : ℕ). z * a) (zero-mul (2 ^ 0)) ∙ zero-mul a) ∙ add-zero (A * 1) ∙ mul-one A

pub nearest_root : (f : Format) (x : Float) → T (fits f x) → T (positive x) → NearestRoot f x (sqrt f x)
nearest_root f x h p = record { held = sqrt_fits f x h; above_zero = r_positive f x h p s; below = below; above = above }
  where
    s : Shape f x
    s = shaped f x h p

    below : (y : Float) → T (fits f y) → T (finite y) → T (lt y (sqrt f x)) → sq (total (sqrt f x) y) * den x < 4 * num x * sq (den (sqrt f x) * den y)
    below nan fy py l = absurd py
    below (inf t) fy py l = absurd py
    below (fin false n d) fy py l = plain_below f x h p s (fin false n d) fy tt l
    below (fin true n d) fy py l =
        further (num (sqrt f x)) (den (sqrt f x)) (num x) (den x) (n * up d) (down d) (down_pos d)
        (plain_below f x h p s (fin false 0 (pos 0)) (zero_fits f) tt (zero_lt (sqrt f x) (r_positive f x h p s)))

    above : (y : Float) → T (fits f y) → T (finite y) → T (lt (sqrt f x) y) → 4 * num x * sq (den (sqrt f x) * den y) < sq (total (sqrt f x) y) * den x
    above nan fy py l = absurd py
    above (inf t) fy py l = absurd py
    above (fin false n d) fy py l = plain_above f x h p s (fin false n d) fy tt l
    above (fin true n d) fy py l = absurd (not_under (sqrt f x) n d (r_positive f x h p s) l)
