-- The size of a value in units of 2^-30, cut to a whole number, from the two fields of its pattern.
use mathlib.Core.Path.{◌≡◌, sym, ap, ◌∙◌, subst}
use Prim.Native.Nat.{ℕ, zero, suc, ◌+◌, ◌-◌, ◌*◌, ◌/◌, ◌%◌, ◌^◌, ◌≤◌, ◌<◌}
use native.Mathlib.Nat.{le_trans, le_of_eq, le_of_lt, le_of_mul-le-mul_right, lt_of_lt_of_le, mul-le-mul_right, mul-le-mul, mul-pos, mod-lt, div-add-mod', zero-lt-suc, zero-mul, le-add_left, div-lt_iff_lt-mul, le_of_suc-le-suc, eq-or-lt_of_le, eq_of_mul-eq-mul_right, mul-lt-mul_of_pos_right}
use native.Mathlib.Omega.{arith}
use mathlib.Core.Bool.{Bool, true, false, true≢false}
use mathlib.Core.Logic.{◌⊎◌, inl, inr}
use lib.Pow.{pow-add, pow_pos, pow_mono}
use lib.IntN.{pos}
use lib.Ieee.{Float, nan, inf, fin, binary32, up, down, hid, of_fields, of_bits, of_int, round, div}
use lib.Ieee.Back.{round_whole}
use lib.Ieee.Exact.{HasValue, round_exact}
use lib.Ieee.Fits.{down_pos}
use lib.Ieee.Positive.{num, den}
use Rattle.ieee.proofs.Fields.{low_value, normal_value}
use Rattle.zoom_factor.specs.Steps.{Cut, CutPattern}

-- of a value that is w / 2^149 in size
OfValue : (v : Float) (s : Bool) (w x : ℕ) → HasValue v s w (2 ^ 149) → x * 2 ^ 149 ≤ w * 2 ^ 30 → w * 2 ^ 30 ≤ x * 2 ^ 149 + 2 ^ 149 → Cut (num v) (den v) x
OfValue nan s w x h a b = absurd h
OfValue (inf t) s w x h a b = absurd h
OfValue (fin t m e) s w x h a b = record {
  low = le_of_mul-le-mul_right (first (m * up e) (down e) (2 ^ 149) (2 ^ 30) w h.1 a) (pow_pos 149);
  high = le_of_mul-le-mul_right (second (m * up e) (down e) (2 ^ 149) (2 ^ 30) w h.1 b) (pow_pos 149);
}
  where
    first : (n d L Q w : ℕ) → n * L ≡ w * d → x * L ≤ w * Q → x * d * L ≤ n * Q * L
    first n d L Q w e a = let u : x * L * d ≤ w * Q * d = mul-le-mul_right d a in let v : n * L * Q ≡ w * d * Q = ap (λ (z : ℕ). z * Q) e in omega arith

    second : (n d L Q w : ℕ) → n * L ≡ w * d → w * Q ≤ x * L + L → n * Q * L ≤ (x * d + d) * L
    second n d L Q w e a = let u : w * Q * d ≤ (x * L + L) * d = mul-le-mul_right d a in let v : n * L * Q ≡ w * d * Q = ap (λ (z : ℕ). z * Q) e in omega arith

least : (n : ℕ) → 0 ≤ n
least n = omega arith

-- ---- a field below 97: less than one unit
tiny : (w : ℕ) → w ≤ 2 ^ 119 → (0 * 2 ^ 149 ≤ w * 2 ^ 30) × (w * 2 ^ 30 ≤ 0 * 2 ^ 149 + 2 ^ 149)
tiny w h = (le_trans (le_of_eq (zero-mul (2 ^ 149))) (least (w * 2 ^ 30)), le_trans (mul-le-mul_right (2 ^ 30) h) (le_trans (le_of_eq (sym (pow-add 2 119 30))) (le-add_left (2 ^ 149) (0 * 2 ^ 149))))

digits_lt : (t : ℕ) → hid binary32 + t % hid binary32 < 2 ^ 24
digits_lt t = omega arith

low_small : (p f : ℕ) → 0 < f → f < 97 → (hid binary32 + p % hid binary32) * 2 ^ (f - 1) ≤ 2 ^ 119
low_small p f F h = le_trans (mul-le-mul (le_of_lt (digits_lt p)) (pow_mono {i = f - 1} {j = 95} (omega arith))) (omega arith)

pub below : (p : ℕ) → p / 2 ^ 23 < 97 → CutPattern p 0
below p h = record { small = omega arith; cut = λ s. go s (p / 2 ^ 23) h }
  where
    go : (s : Bool) (f : ℕ) → f < 97 → Cut (num (of_fields binary32 s f (p % hid binary32))) (den (of_fields binary32 s f (p % hid binary32))) 0
    go s zero h = let u = tiny (p % hid binary32 * 2 ^ 0) (omega arith) in OfValue (of_fields binary32 s 0 (p % hid binary32)) s (p % hid binary32 * 2 ^ 0) 0 (low_value binary32 s (p % hid binary32)) u.0 u.1
    go s (suc f) h =
        let w = (hid binary32 + p % hid binary32) * 2 ^ (suc f - 1) in
        let u = tiny w (low_small p (suc f) (zero-lt-suc f) h) in
        OfValue (of_fields binary32 s (suc f) (p % hid binary32)) s w 0 (normal_value binary32 s (suc f) (p % hid binary32) (zero-lt-suc f) (omega arith)) u.0 u.1

-- ---- a field from 97 to 127: q digits, moved
split : (q f : ℕ) → 97 ≤ f → f ≤ 127 → (q * 2 ^ 30 / 2 ^ (150 - f) * 2 ^ 149 ≤ q * 2 ^ (f - 1) * 2 ^ 30) × (q * 2 ^ (f - 1) * 2 ^ 30 ≤ q * 2 ^ 30 / 2 ^ (150 - f) * 2 ^ 149 + 2 ^ 149)
split q f a b =
    let P = 2 ^ (150 - f) in
    let R = 2 ^ (f - 1) in
    let e : R * P ≡ 2 ^ 149 = sym (pow-add 2 (f - 1) (150 - f)) ∙ ap (λ (z : ℕ). 2 ^ z) (exponents f a b) in
    let x = q * 2 ^ 30 / P in
    let d : x * P + q * 2 ^ 30 % P ≡ q * 2 ^ 30 = div-add-mod' (q * 2 ^ 30) P in
    let l : q * 2 ^ 30 % P < P = mod-lt (q * 2 ^ 30) (pow_pos (150 - f)) in
    subst (λ (L : ℕ). (x * L ≤ q * R * 2 ^ 30) × (q * R * 2 ^ 30 ≤ x * L + L)) e (parts x P R (q * 2 ^ 30 % P) (q * 2 ^ 30) (q * R * 2 ^ 30) d l (turn q R))
  where
    exponents : (f : ℕ) → 97 ≤ f → f ≤ 127 → f - 1 + (150 - f) ≡ 149
    exponents f a b = omega arith

    turn : (q R : ℕ) → q * R * 2 ^ 30 ≡ q * 2 ^ 30 * R
    turn q R = omega arith

    parts : (x P R r z y : ℕ) → x * P + r ≡ z → r < P → y ≡ z * R → (x * (R * P) ≤ y) × (y ≤ x * (R * P) + R * P)
    parts x P R r z y d l e =
        let u : (x * P + r) * R ≡ z * R = ap (λ (v : ℕ). v * R) d in
        let w : r * R ≤ P * R = mul-le-mul_right R (le_of_lt l) in
        (omega arith, omega arith)

pub moved : (p : ℕ) → 97 ≤ p / 2 ^ 23 → p ≤ 0x3f80_0000 → CutPattern p ((0x80_0000 + p % 0x80_0000) * 0x4000_0000 / 2 ^ (150 - p / 2 ^ 23))
moved p a b =
    let f = p / 2 ^ 23 in
    let q = hid binary32 + p % hid binary32 in
    let k : f ≤ 127 = omega arith in
    let u = split q f a k in
    record {
      small = le_of_suc-le-suc ((div-lt_iff_lt-mul (pow_pos (150 - f))).1 (room q (2 ^ (150 - f)) (pow_pos (150 - f)) (enough (eq-or-lt_of_le k))));
      cut = λ s. OfValue (of_fields binary32 s f (p % hid binary32)) s (q * 2 ^ (f - 1)) (q * 2 ^ 30 / 2 ^ (150 - f)) (normal_value binary32 s f (p % hid binary32) (omega arith) (omega arith)) u.0 u.1;
    }
  where
    room : (q P : ℕ) → 0 < P → q ≤ P → q * 2 ^ 30 < suc (2 ^ 30) * P
    room q P p h = omega arith

    enough : (p / 2 ^ 23 ≡ 127) ⊎ (p / 2 ^ 23 < 127) → hid binary32 + p % hid binary32 ≤ 2 ^ (150 - p / 2 ^ 23)
    enough (inl e) = subst (λ (f : ℕ). hid binary32 + p % hid binary32 ≤ 2 ^ (150 - f)) (sym e) (omega arith)
    enough (inr l) = le_trans (le_of_lt (digits_lt p)) (pow_mono {i = 24} {j = 150 - p / 2 ^ 23} (omega arith))

-- ---- n / 2^22 as an f32, for an n that an f32 counts
rescaled : (v : Float) (s : Bool) (a c n k : ℕ) → 0 < c → a * k ≡ n * c → HasValue v s a c → HasValue v s n k
rescaled nan s a c n k C e h = h
rescaled (inf t) s a c n k C e h = h
rescaled (fin t m e) s a c n k C g h = (h.0, eq_of_mul-eq-mul_right c C (m * up e * k) (n * down e) (turn (m * up e) k c ∙ ap (λ (z : ℕ). z * k) h.1 ∙ turn a (down e) k ∙ ap (λ (z : ℕ). z * down e) g ∙ turn n c (down e)))
  where
    turn : (x y z : ℕ) → x * y * z ≡ x * z * y
    turn x y z = omega arith

by_power : (v : Float) (n : ℕ) → n < 2 ^ 24 → HasValue v false n 1 → HasValue (div binary32 v (of_bits binary32 0x4a80_0000)) false n (2 ^ 22)
unfolding div of_bits
by_power nan n h g = absurd g
by_power (inf t) n h g = absurd g
by_power (fin true m e) n h g = absurd (true≢false g.0)
by_power (fin false m e) n h g =
    rescaled (round binary32 false (m * up e * 1) (1 * 2 ^ 22 * down e)) false (m * up e * 1) (1 * 2 ^ 22 * down e) n (2 ^ 22) C (ap (λ (z : ℕ). z * 2 ^ 22) g.1 ∙ small n (down e))
    (round_exact binary32 false (m * up e * 1) (1 * 2 ^ 22 * down e) n 127 C h (lt_of_lt_of_le (mul-lt-mul_of_pos_right h (pow_pos 127)) (le_trans (le_of_eq (sym (pow-add 2 24 127))) (pow_mono {i = 151} {j = 277} (omega arith))))
    (ap (λ (z : ℕ). z * 2 ^ 149) g.1 ∙ ap (λ (z : ℕ). n * down e * z) (pow-add 2 127 22) ∙ large n (down e) (2 ^ 127)))
  where
    C : 0 < 1 * 2 ^ 22 * down e
    C = mul-pos (pow_pos 22) (down_pos e)

    small : (n d : ℕ) → n * d * 2 ^ 22 ≡ n * (1 * 2 ^ 22 * d)
    small n d = omega arith

    large : (n d P : ℕ) → n * d * (P * 2 ^ 22) ≡ n * P * (1 * 2 ^ 22 * d)
    large n d P = omega arith

pub scaled : (n : ℕ) → n < 2 ^ 24 → HasValue (div binary32 (of_int binary32 (pos n)) (of_bits binary32 0x4a80_0000)) false n (2 ^ 22)
unfolding of_int
scaled n h = by_power (round binary32 false n 1) n h (round_whole binary32 false n (le_of_lt h))
