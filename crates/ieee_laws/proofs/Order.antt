-- The order of floats: laws of `le` and `lt` for all values, a NaN and the infinities included where they hold. Assumes nothing.
-- A finite value is (P - M) / den with P or M zero, so that an order of two is one of natural numbers.
use mathlib.Core.Path.{◌≡◌, sym, ◌∙◌}
use mathlib.Core.Logic.{◌⊎◌, inl, inr}
use Prim.Native.Nat.{ℕ, ◌+◌, ◌*◌, ◌≤◌, ◌<◌}
use native.Mathlib.Nat.{le_of_eq, le_of_lt, eq-or-lt_of_le, eq-zero-or-pos, mul-le-mul_right, le_of_mul-le-mul_right}
use native.Mathlib.Omega.{arith}
use mathlib.Core.Bool.{Bool, true, false, not, ◌&&◌, ◌||◌, cond}
use lib.Dec.{T, ltb, eqb, ltb→lt, lt→ltb, nltb→le, eqb→eq}
use lib.Ieee.{Float, nan, inf, fin, up, down, neg, le, lt, eq, is_nan}
use lib.Ieee.Fits.{and_l, and_r, and_i, eq→eqb}
use lib.Ieee.Positive.{den, den_pos}
use lib.Ieee.Scale.{finite}

-- ---- Bool
or_cases : (s t : Bool) → T (s || t) → T s ⊎ T t
or_cases true t h = inl tt
or_cases false t h = inr h

or_l : (s t : Bool) → T s → T (s || t)
or_l true t h = tt
or_l false t h = absurd h

or_r : (s t : Bool) → T t → T (s || t)
or_r true t h = tt
or_r false t h = h

-- ---- what `le` computes to, by the two signs, with a and b for the sizes over one denominator
pub plus_le : (a b : ℕ) → T (ltb a b || (eqb a b && true)) → a ≤ b
plus_le a b h = elim (or_cases (ltb a b) (eqb a b && true) h) [ inl u ↦ le_of_lt (ltb→lt a b u) | inr u ↦ le_of_eq (eqb→eq a b (and_l (eqb a b) true u)) ]

le_plus : (a b : ℕ) → a ≤ b → T (ltb a b || (eqb a b && true))
le_plus a b h = elim (eq-or-lt_of_le h) [ inl e ↦ or_r (ltb a b) (eqb a b && true) (and_i (eqb a b) true (eq→eqb e) tt) | inr l ↦ or_l (ltb a b) (eqb a b && true) (lt→ltb a b l) ]

minus_le : (a b : ℕ) → T (ltb b a || (eqb a b && true)) → b ≤ a
minus_le a b h = elim (or_cases (ltb b a) (eqb a b && true) h) [ inl u ↦ le_of_lt (ltb→lt b a u) | inr u ↦ le_of_eq (sym (eqb→eq a b (and_l (eqb a b) true u))) ]

le_minus : (a b : ℕ) → b ≤ a → T (ltb b a || (eqb a b && true))
le_minus a b h = elim (eq-or-lt_of_le h) [ inl e ↦ or_r (ltb b a) (eqb a b && true) (and_i (eqb a b) true (eq→eqb (sym e)) tt) | inr l ↦ or_l (ltb b a) (eqb a b && true) (lt→ltb b a l) ]

pub zeros_le : (a b : ℕ) → T (false || (eqb a b && (false || eqb a 0))) → (a ≡ 0) × (b ≡ 0)
zeros_le a b h =
    let z : a ≡ 0 = eqb→eq a 0 (and_r (eqb a b) (eqb a 0) h) in
    (z, sym (eqb→eq a b (and_l (eqb a b) (eqb a 0) h)) ∙ z)

le_zeros : (a b : ℕ) → a ≡ 0 → b ≡ 0 → T (false || (eqb a b && (false || eqb a 0)))
le_zeros a b x y = and_i (eqb a b) (eqb a 0) (eq→eqb (x ∙ sym y)) (eq→eqb x)

le_across : (a b : ℕ) → T (ltb 0 (a + b) || (eqb a b && (false || eqb a 0)))
le_across a b = go (eq-zero-or-pos (a + b))
  where
    go : (a + b ≡ 0) ⊎ (0 < a + b) → T (ltb 0 (a + b) || (eqb a b && (false || eqb a 0)))
    go (inl z) = or_r (ltb 0 (a + b)) (eqb a b && (false || eqb a 0)) (le_zeros a b (omega arith) (omega arith))
    go (inr l) = or_l (ltb 0 (a + b)) (eqb a b && (false || eqb a 0)) (lt→ltb 0 (a + b) l)

-- ---- `le` of two finite values, as one of their parts
abbrev pub plus : Float → ℕ
plus nan = 0
plus (inf s) = 0
plus (fin s m e) = cond s 0 (m * up e)

abbrev pub minus : Float → ℕ
minus nan = 0
minus (inf s) = 0
minus (fin s m e) = cond s (m * up e) 0

-- (P - M) / c ≤ (Q - N) / d
abbrev pub Below : Float → Float → Type 0
Below x y = plus x * den y + minus y * den x ≤ plus y * den x + minus x * den y

-- the four cases of a part that is 0
ff_in : (a b u v : ℕ) → a ≤ b → a + 0 * u ≤ b + 0 * v
ff_in a b u v h = omega arith

ft_in : (a b u v : ℕ) → a ≡ 0 → b ≡ 0 → a + b ≤ 0 * u + 0 * v
ft_in a b u v h k = omega arith

tf_in : (a b u v : ℕ) → 0 * u + 0 * v ≤ b + a
tf_in a b u v = omega arith

tt_in : (a b u v : ℕ) → b ≤ a → 0 * u + b ≤ 0 * v + a
tt_in a b u v h = omega arith

ff_out : (a b u v : ℕ) → a + 0 * u ≤ b + 0 * v → a ≤ b
ff_out a b u v h = omega arith

ft_out : (a b u v : ℕ) → a + b ≤ 0 * u + 0 * v → (a ≡ 0) × (b ≡ 0)
ft_out a b u v h = (omega arith, omega arith)

tt_out : (a b u v : ℕ) → 0 * u + b ≤ 0 * v + a → b ≤ a
tt_out a b u v h = omega arith

pub le→below : (x y : Float) → T (finite x) → T (finite y) → T (le x y) → Below x y
unfolding le
le→below nan y p q h = absurd p
le→below (inf s) y p q h = absurd p
le→below (fin s m e) nan p q h = absurd q
le→below (fin s m e) (inf t) p q h = absurd q
le→below (fin false m e) (fin false n d) p q h = ff_in (m * up e * down d) (n * up d * down e) (down e) (down d) (plus_le (m * up e * down d) (n * up d * down e) h)
le→below (fin false m e) (fin true n d) p q h =
    let z = zeros_le (m * up e * down d) (n * up d * down e) h in ft_in (m * up e * down d) (n * up d * down e) (down e) (down d) z.0 z.1
le→below (fin true m e) (fin false n d) p q h = tf_in (m * up e * down d) (n * up d * down e) (down d) (down e)
le→below (fin true m e) (fin true n d) p q h = tt_in (m * up e * down d) (n * up d * down e) (down d) (down e) (minus_le (m * up e * down d) (n * up d * down e) h)

pub below→le : (x y : Float) → T (finite x) → T (finite y) → Below x y → T (le x y)
unfolding le
below→le nan y p q h = absurd p
below→le (inf s) y p q h = absurd p
below→le (fin s m e) nan p q h = absurd q
below→le (fin s m e) (inf t) p q h = absurd q
below→le (fin false m e) (fin false n d) p q h = le_plus (m * up e * down d) (n * up d * down e) (ff_out (m * up e * down d) (n * up d * down e) (down e) (down d) h)
below→le (fin false m e) (fin true n d) p q h =
    let z = ft_out (m * up e * down d) (n * up d * down e) (down e) (down d) h in le_zeros (m * up e * down d) (n * up d * down e) z.0 z.1
below→le (fin true m e) (fin false n d) p q h = le_across (m * up e * down d) (n * up d * down e)
below→le (fin true m e) (fin true n d) p q h = le_minus (m * up e * down d) (n * up d * down e) (tt_out (m * up e * down d) (n * up d * down e) (down d) (down e) h)

-- ---- only numbers compare, and the infinities are the ends
pub le_numbers : (x y : Float) → T (le x y) → T (not (is_nan x)) × T (not (is_nan y))
unfolding le is_nan
le_numbers nan y h = absurd h
le_numbers (inf true) nan h = absurd h
le_numbers (inf false) nan h = absurd h
le_numbers (fin s m e) nan h = absurd h
le_numbers (inf s) (inf t) h = (tt, tt)
le_numbers (inf s) (fin t n d) h = (tt, tt)
le_numbers (fin s m e) (inf t) h = (tt, tt)
le_numbers (fin s m e) (fin t n d) h = (tt, tt)

pub le_infinity : (x : Float) → T (not (is_nan x)) → T (le x (inf false))
unfolding le is_nan
le_infinity nan h = h
le_infinity (inf true) h = tt
le_infinity (inf false) h = tt
le_infinity (fin s m e) h = tt

pub minus_infinity_le : (x : Float) → T (not (is_nan x)) → T (le (inf true) x)
unfolding le is_nan
minus_infinity_le nan h = h
minus_infinity_le (inf true) h = tt
minus_infinity_le (inf false) h = tt
minus_infinity_le (fin s m e) h = tt

-- ---- transitivity
below_trans : (A A' a B B' b C C' c : ℕ) → 0 < b → A * b + B' * a ≤ B * a + A' * b → B * c + C' * b ≤ C * b + B' * c → A * c + C' * a ≤ C * a + A' * c
below_trans A A' a B B' b C C' c P h k =
    let x : (A * b + B' * a) * c ≤ (B * a + A' * b) * c = mul-le-mul_right c h in
    let y : (B * c + C' * b) * a ≤ (C * b + B' * c) * a = mul-le-mul_right a k in
    le_of_mul-le-mul_right (omega arith) P

finite_trans : (x y z : Float) → T (finite x) → T (finite y) → T (finite z) → T (le x y) → T (le y z) → T (le x z)
finite_trans x y z p q r h k =
    below→le x z p r (below_trans (plus x) (minus x) (den x) (plus y) (minus y) (den y) (plus z) (minus z) (den z) (den_pos y) (le→below x y p q h) (le→below y z q r k))

pub le_trans : (x y z : Float) → T (le x y) → T (le y z) → T (le x z)
unfolding le
le_trans nan y z h k = absurd h
le_trans (inf true) nan z h k = absurd h
le_trans (inf true) (inf t) nan h k = absurd k
le_trans (inf true) (fin t m e) nan h k = absurd k
le_trans (inf true) (inf t) (inf true) h k = tt
le_trans (inf true) (inf t) (inf false) h k = tt
le_trans (inf true) (inf t) (fin u n d) h k = tt
le_trans (inf true) (fin t m e) (inf true) h k = tt
le_trans (inf true) (fin t m e) (inf false) h k = tt
le_trans (inf true) (fin t m e) (fin u n d) h k = tt
le_trans (inf false) nan z h k = absurd h
le_trans (inf false) (inf true) z h k = absurd h
le_trans (inf false) (inf false) z h k = k
le_trans (inf false) (fin t m e) z h k = absurd h
le_trans (fin s m e) nan z h k = absurd h
le_trans (fin s m e) (inf true) z h k = absurd h
le_trans (fin s m e) (inf false) nan h k = absurd k
le_trans (fin s m e) (inf false) (inf true) h k = absurd k
le_trans (fin s m e) (inf false) (inf false) h k = tt
le_trans (fin s m e) (inf false) (fin u n d) h k = absurd k
le_trans (fin s m e) (fin t n d) nan h k = absurd k
le_trans (fin s m e) (fin t n d) (inf true) h k = absurd k
le_trans (fin s m e) (fin t n d) (inf false) h k = tt
le_trans (fin s m e) (fin t n d) (fin u o c) h k = finite_trans (fin s m e) (fin t n d) (fin u o c) tt tt tt h k

pub le_refl : (x : Float) → T (finite x) → T (le x x)
le_refl x p = below→le x x p p (omega arith)

-- ---- `le` one way and `lt` the other way
less_not : (a b : ℕ) → a ≤ b → b < a → ⊥
less_not a b h k = omega arith

none_less : (a b : ℕ) → a ≡ 0 → b ≡ 0 → 0 < b + a → ⊥
none_less a b x y h = omega arith

pub le_not_lt : (x y : Float) → T (le x y) → T (lt y x) → ⊥
unfolding le
le_not_lt nan y h k = h
le_not_lt (inf true) nan h k = h
le_not_lt (inf false) nan h k = h
le_not_lt (inf true) (inf true) h k = k
le_not_lt (inf true) (inf false) h k = k
le_not_lt (inf true) (fin t n d) h k = k
le_not_lt (inf false) (inf true) h k = h
le_not_lt (inf false) (inf false) h k = k
le_not_lt (inf false) (fin t n d) h k = h
le_not_lt (fin s m e) nan h k = h
le_not_lt (fin s m e) (inf true) h k = h
le_not_lt (fin s m e) (inf false) h k = k
le_not_lt (fin false m e) (fin false n d) h k = less_not (m * up e * down d) (n * up d * down e) (plus_le (m * up e * down d) (n * up d * down e) h) (ltb→lt (n * up d * down e) (m * up e * down d) k)
le_not_lt (fin false m e) (fin true n d) h k =
    let z = zeros_le (m * up e * down d) (n * up d * down e) h in none_less (m * up e * down d) (n * up d * down e) z.0 z.1 (ltb→lt 0 (n * up d * down e + m * up e * down d) k)
le_not_lt (fin true m e) (fin false n d) h k = k
le_not_lt (fin true m e) (fin true n d) h k = less_not (n * up d * down e) (m * up e * down d) (minus_le (m * up e * down d) (n * up d * down e) h) (ltb→lt (m * up e * down d) (n * up d * down e) k)

pub not_lt_le : (x y : Float) → T (finite x) → T (finite y) → T (not (lt x y)) → T (le y x)
unfolding le
not_lt_le nan y p q h = absurd p
not_lt_le (inf s) y p q h = absurd p
not_lt_le (fin s m e) nan p q h = absurd q
not_lt_le (fin s m e) (inf t) p q h = absurd q
not_lt_le (fin false m e) (fin false n d) p q h = le_plus (n * up d * down e) (m * up e * down d) (nltb→le (m * up e * down d) (n * up d * down e) h)
not_lt_le (fin false m e) (fin true n d) p q h = le_across (n * up d * down e) (m * up e * down d)
not_lt_le (fin true m e) (fin false n d) p q h =
    let z : m * up e * down d + n * up d * down e ≤ 0 = nltb→le 0 (m * up e * down d + n * up d * down e) h in le_zeros (n * up d * down e) (m * up e * down d) (omega arith) (omega arith)
not_lt_le (fin true m e) (fin true n d) p q h = le_minus (n * up d * down e) (m * up e * down d) (nltb→le (n * up d * down e) (m * up e * down d) h)

-- the same, with the infinities
not_less : (x y : Float) → T (not (is_nan x)) → T (not (is_nan y)) → T (not (lt x y)) → T (le y x)
unfolding is_nan lt
not_less nan y p q h = absurd p
not_less (inf true) nan p q h = absurd q
not_less (inf true) (inf true) p q h = unfold le in tt
not_less (inf true) (inf false) p q h = absurd h
not_less (inf true) (fin t n d) p q h = absurd h
not_less (inf false) y p q h = le_infinity y q
not_less (fin s m e) nan p q h = absurd q
not_less (fin s m e) (inf true) p q h = minus_infinity_le (fin s m e) p
not_less (fin s m e) (inf false) p q h = absurd h
not_less (fin s m e) (fin t n d) p q h = not_lt_le (fin s m e) (fin t n d) tt tt h

pub lt_le : (x y : Float) → T (lt x y) → T (le x y)
unfolding le
lt_le x y h = or (lt x y) h
  where
    or : (a : Bool) → T a → T (a || eq x y)
    or true t = tt
    or false t = absurd t

-- ---- a bound that is passed stays passed
pub lt_le_trans : (x y z : Float) → T (lt x y) → T (le y z) → T (lt x z)
lt_le_trans x y z h k = go (lt x z) (not_less x z (le_numbers x y (lt_le x y h)).0 (le_numbers y z k).1)
  where
    go : (b : Bool) → (T (not b) → T (le z x)) → T b
    go true w = tt
    go false w = absurd (le_not_lt y x (le_trans y z x k (w tt)) h)

pub le_lt_trans : (x y z : Float) → T (le x y) → T (lt y z) → T (lt x z)
le_lt_trans x y z h k = go (lt x z) (not_less x z (le_numbers x y h).0 (le_numbers y z (lt_le y z k)).1)
  where
    go : (b : Bool) → (T (not b) → T (le z x)) → T b
    go true w = tt
    go false w = absurd (le_not_lt z y (le_trans z x y (w tt) h) k)

-- ---- negatives are in the other order
pub neg_anti : (x y : Float) → T (le x y) → T (le (neg y) (neg x))
unfolding neg le
neg_anti nan y h = absurd h
neg_anti (inf true) nan h = absurd h
neg_anti (inf true) (inf true) h = tt
neg_anti (inf true) (inf false) h = tt
neg_anti (inf true) (fin t n d) h = tt
neg_anti (inf false) nan h = absurd h
neg_anti (inf false) (inf true) h = absurd h
neg_anti (inf false) (inf false) h = tt
neg_anti (inf false) (fin t n d) h = absurd h
neg_anti (fin s m e) nan h = absurd h
neg_anti (fin s m e) (inf true) h = absurd h
neg_anti (fin s m e) (inf false) h = tt
neg_anti (fin false m e) (fin false n d) h = le_minus (n * up d * down e) (m * up e * down d) (plus_le (m * up e * down d) (n * up d * down e) h)
neg_anti (fin false m e) (fin true n d) h = let z = zeros_le (m * up e * down d) (n * up d * down e) h in le_zeros (n * up d * down e) (m * up e * down d) z.1 z.0
neg_anti (fin true m e) (fin false n d) h = le_across (n * up d * down e) (m * up e * down d)
neg_anti (fin true m e) (fin true n d) h = le_plus (n * up d * down e) (m * up e * down d) (minus_le (m * up e * down d) (n * up d * down e) h)
