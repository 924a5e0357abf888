-- Rounding m * 2 ^ j / 2 ^ L to a format, where it needs no more than a shift of m; and what `narrow_pattern` returns, by the four ranges of the exponent's field. Assumes nothing.
use mathlib.Core.Path.{◌≡◌, refl, sym, ap, ◌∙◌}
use mathlib.Core.Logic.{◌⊎◌, inl, inr}
use Prim.Native.Nat.{ℕ, suc, ◌+◌, ◌-◌, ◌*◌, ◌/◌, ◌%◌, ◌^◌, ◌≤◌, ◌<◌, min, compare, Ordering}
use native.Mathlib.Nat.{le_trans, le_of_eq, lt_of_lt_of_le, lt_of_le_of_lt, mul_assoc, mul-le-mul_right, mul-pos, le-div_iff_mul-le, div-lt_iff_lt-mul, eq-or-lt_of_le, eq-zero-or-pos, mod-lt, mod-eq_of_lt, div-eq_of_lt}
use native.Mathlib.Omega.{arith}
use mathlib.Core.Bool.{Bool, cond}
use lib.Dec.{lit≤, lit<}
use lib.Pow.{pow-add, pow_pos, pow_mono, shl_lt}
use lib.Ieee.{Float, nan, inf, fin, Format, binary32, binary64, prec, low, up, down, size, units, round, nearest, top, of_fields, of_bits, to_bits}
use lib.Ieee.Digits.{size-le}
use lib.Ieee.Fits.{round_is, down_pos, inf-fits}
use lib.Ieee.Bits.{of_bits-to_bits}
use lib.Ieee.Exact.{HasValue}
use lib.Ieee.Nearest.{closest, closest_same}
use lib.Ieee.Scale.{round_same}
use Rattle.ieee_narrow.specs.Narrow.{narrow}
use Rattle.ieee_narrow.specs.Patterns.{Narrowed}
use Rattle.ieee.proofs.Packed.{Led, units_bits, size_exact}
use Rattle.ieee.proofs.Closest.{Cmp, cmp, closest_le, closest_ge}
use Rattle.ieee.proofs.Fields.{low_value, normal_value}

-- ---- a value at a format, by any fraction that it equals
pub narrow_value : (f : Format) (x : Float) (s : Bool) (a c : ℕ) → 0 < c → HasValue x s a c → narrow f x ≡ round f s a c
unfolding narrow
narrow_value f nan s a c C h = absurd h
narrow_value f (inf t) s a c C h = absurd h
narrow_value f (fin t m e) s a c C h = ap (λ (b : Bool). round f b (m * up e) (down e)) h.0 ∙ round_same f s (m * up e) (down e) a c (down_pos e) C h.1

-- ---- m * 2 ^ j * 2 ^ l / 2 ^ L
gather : (q j l : ℕ) → q * 2 ^ j * 2 ^ l ≡ q * 2 ^ (j + l)
gather q j l = mul_assoc q (2 ^ j) (2 ^ l) ∙ ap (λ (x : ℕ). q * x) (sym (pow-add 2 j l))

pub powers : (q j l c L k : ℕ) → j + l + c ≡ L + k → q * 2 ^ j * 2 ^ l * 2 ^ c ≡ q * (2 ^ L * 2 ^ k)
powers q j l c L k e =
    ap (λ (x : ℕ). x * 2 ^ c) (gather q j l) ∙ gather q (j + l) c ∙ ap (λ (x : ℕ). q * 2 ^ x) e ∙ ap (λ (x : ℕ). q * x) (pow-add 2 L k)

quotient_lt : (q p j l L z : ℕ) → q < 2 ^ p → p + j + l ≤ L + z → q * 2 ^ j * 2 ^ l / 2 ^ L < 2 ^ z
quotient_lt q p j l L z Q h =
    (div-lt_iff_lt-mul (pow_pos L)).1
    (lt_of_le_of_lt (le_of_eq (gather q j l))
    (lt_of_lt_of_le (shl_lt p (j + l) Q) (le_trans (pow_mono (reorder p j l L z h)) (le_of_eq (pow-add 2 z L)))))
  where
    reorder : (p j l L z : ℕ) → p + j + l ≤ L + z → p + (j + l) ≤ z + L
    reorder p j l L z h = omega arith

quotient_ge : (q p j l L z : ℕ) → 2 ^ p ≤ q → L + z ≤ p + j + l → 2 ^ z ≤ q * 2 ^ j * 2 ^ l / 2 ^ L
quotient_ge q p j l L z Q h =
    (le-div_iff_mul-le (pow_pos L)).1
    (le_trans (le_of_eq (sym (pow-add 2 z L)))
    (le_trans (pow_mono (reorder p j l L z h))
    (le_trans (le_of_eq (pow-add 2 p (j + l)))
    (le_trans (mul-le-mul_right (2 ^ (j + l)) Q) (le_of_eq (sym (gather q j l)))))))
  where
    reorder : (p j l L z : ℕ) → L + z ≤ p + j + l → z + L ≤ p + (j + l)
    reorder p j l L z h = omega arith

-- where the quotient needs no digit dropped
pub drop_none : (q p j l L r : ℕ) → q < 2 ^ p → p + j + l ≤ L + r → size (q * 2 ^ j * 2 ^ l / 2 ^ L) - r ≡ 0
drop_none q p j l L r Q h = none (size (q * 2 ^ j * 2 ^ l / 2 ^ L)) r (size-le (q * 2 ^ j * 2 ^ l / 2 ^ L) r (quotient_lt q p j l L r Q h))
  where
    none : (z r : ℕ) → z ≤ r → z - r ≡ 0
    none z r h = omega arith

-- where it has r + k digits
pub drop_some : (q p j l L r k : ℕ) → 2 ^ p ≤ q → q < 2 ^ suc p → 0 < r → suc p + j + l ≡ L + (r + k) → size (q * 2 ^ j * 2 ^ l / 2 ^ L) - r ≡ k
drop_some q p j l L r k lo hi R h =
    ap (λ (z : ℕ). z - r) (size_exact (r + k - 1) (q * 2 ^ j * 2 ^ l / 2 ^ L) (quotient_ge q p j l L (r + k - 1) lo (a p j l L r k R h))
    (quotient_lt q (suc p) j l L (suc (r + k - 1)) hi (b p j l L r k R h)))
    ∙ c r k R
  where
    a : (p j l L r k : ℕ) → 0 < r → suc p + j + l ≡ L + (r + k) → L + (r + k - 1) ≤ p + j + l
    a p j l L r k R h = omega arith

    b : (p j l L r k : ℕ) → 0 < r → suc p + j + l ≡ L + (r + k) → suc p + j + l ≤ L + suc (r + k - 1)
    b p j l L r k R h = omega arith

    c : (r k : ℕ) → 0 < r → suc (r + k - 1) - r ≡ k
    c r k R = omega arith

-- `round` at such a fraction, with k digits dropped: the shift by c
pub round_shift : (f : Format) (s : Bool) (q j L c k : ℕ) → j + low f + c ≡ L + k → size (q * 2 ^ j * 2 ^ low f / 2 ^ L) - prec f ≡ k → round f s (q * 2 ^ j) (2 ^ L) ≡ units f s (closest q (2 ^ c)) k
round_shift f s q j L c k e z =
    round_is f s (q * 2 ^ j) (2 ^ L)
    ∙ ap (λ (x : ℕ). units f s (closest (q * 2 ^ j * 2 ^ low f) (2 ^ L * 2 ^ x)) x) z
    ∙ ap (λ (x : ℕ). units f s x k) (closest_same (q * 2 ^ j * 2 ^ low f) (2 ^ L * 2 ^ k) q (2 ^ c) (mul-pos (pow_pos L) (pow_pos k)) (pow_pos c) (powers q j (low f) c L k e))

-- ---- what is less than a half rounds to 0
tiny : (q u : ℕ) (o : Ordering) → q * 2 < u → Cmp o (q * 2) u → nearest 0 o ≡ 0
tiny q u Ordering.lt h c = refl
tiny q u Ordering.eq h c = absurd (omega arith)
tiny q u Ordering.gt h c = absurd (omega arith)

half_less : (q u : ℕ) → q * 2 < u → q < u
half_less q u h = omega arith

pub closest_tiny : (q u : ℕ) → q * 2 < u → closest q u ≡ 0
closest_tiny q u h =
    ap (λ (x : ℕ). nearest x (compare (q % u * 2) u)) (div-eq_of_lt (half_less q u h))
    ∙ ap (λ (x : ℕ). nearest 0 (compare (x * 2) u)) (mod-eq_of_lt (half_less q u h))
    ∙ tiny q u (compare (q * 2) u) h (cmp (q * 2) u)

twice_lt : (q p c : ℕ) → q < 2 ^ p → suc p ≤ c → q * 2 < 2 ^ c
twice_lt q p c h k = lt_of_lt_of_le (lt_of_lt_of_le (shl_lt p 1 h) (le_of_eq (ap (λ (x : ℕ). 2 ^ x) (plus_one p)))) (pow_mono k)
  where
    plus_one : (p : ℕ) → p + 1 ≡ suc p
    plus_one p = omega arith

-- ---- `narrow_pattern`
abbrev Field : ℕ → ℕ
Field b = b / 2 ^ 52

abbrev Frac : ℕ → ℕ
Frac b = b % 2 ^ 52

abbrev Digits : ℕ → ℕ
Digits b = 2 ^ 52 + b % 2 ^ 52

digits_lt : (b : ℕ) → Digits b < 2 ^ 53
digits_lt b = omega arith

digits_ge : (b : ℕ) → 2 ^ 52 ≤ Digits b
digits_ge b = omega arith

from_units : (b r q k : ℕ) → ((s : Bool) → narrow binary32 (of_fields binary64 s (Field b) (Frac b)) ≡ units binary32 s q k) → q ≤ 2 ^ 24 → Led 24 q k
    → min (k * 2 ^ 23 + q) (255 * 2 ^ 23) ≡ r → Narrowed b r
from_units b r q k h Q L e = record {
  within = least (k * 2 ^ 23 + q) r e;
  value = λ s. ap (λ (x : ℕ). of_bits binary32 (cond s (top binary32) 0 + x)) (sym e) ∙ units_bits binary32 s q k Q L ∙ sym (h s);
}
  where
    least : (a r : ℕ) → min a (255 * 2 ^ 23) ≡ r → r ≤ 0x7f80_0000
    least a r e = omega arith

-- the f64 is m * 2 ^ (field - 1) / 2 ^ 1074
normal_is : (b : ℕ) → 0 < Field b → Field b < 2047 → (s : Bool) → narrow binary32 (of_fields binary64 s (Field b) (Frac b)) ≡ round binary32 s (Digits b * 2 ^ (Field b - 1)) (2 ^ 1074)
normal_is b p h s = narrow_value binary32 (of_fields binary64 s (Field b) (Frac b)) s (Digits b * 2 ^ (Field b - 1)) (2 ^ 1074) (pow_pos 1074) (normal_value binary64 s (Field b) (Frac b) p h)

low_is : (b : ℕ) → Field b ≡ 0 → (s : Bool) → narrow binary32 (of_fields binary64 s (Field b) (Frac b)) ≡ round binary32 s (Frac b * 2 ^ 0) (2 ^ 1074)
low_is b e s =
    ap (λ (x : ℕ). narrow binary32 (of_fields binary64 s x (Frac b))) e
    ∙ narrow_value binary32 (of_fields binary64 s 0 (Frac b)) s (Frac b * 2 ^ 0) (2 ^ 1074) (pow_pos 1074) (low_value binary64 s (Frac b))

-- below the range of subnormal results, and within it
none_kept : (b : ℕ) → Field b < 873 → 0 < Field b → (s : Bool) → narrow binary32 (of_fields binary64 s (Field b) (Frac b)) ≡ units binary32 s 0 0
none_kept b h p s =
    normal_is b p (omega arith) s
    ∙ round_shift binary32 s (Digits b) (Field b - 1) 1074 (926 - Field b) 0 (omega arith) (drop_none (Digits b) 53 (Field b - 1) 149 1074 24 (digits_lt b) (omega arith))
    ∙ ap (λ (x : ℕ). units binary32 s x 0) (closest_tiny (Digits b) (2 ^ (926 - Field b)) (twice_lt (Digits b) 53 (926 - Field b) (digits_lt b) (omega arith)))

none_kept_low : (b : ℕ) → Field b ≡ 0 → (s : Bool) → narrow binary32 (of_fields binary64 s (Field b) (Frac b)) ≡ units binary32 s 0 0
none_kept_low b e s =
    low_is b e s
    ∙ round_shift binary32 s (Frac b) 0 1074 925 0 refl (drop_none (Frac b) 52 0 149 1074 24 (mod-lt b (pow_pos 52)) (lit≤ tt))
    ∙ ap (λ (x : ℕ). units binary32 s x 0) (closest_tiny (Frac b) (2 ^ 925) (twice_lt (Frac b) 52 925 (mod-lt b (pow_pos 52)) (lit≤ tt)))

pub below : (b : ℕ) → Field b < 873 → Narrowed b 0
below b h = from_units b 0 0 0 (λ s. elim (eq-zero-or-pos (Field b)) [ inl e ↦ none_kept_low b e s | inr p ↦ none_kept b h p s ]) (lit≤ tt) (inl refl) refl

kept_small : (q c r : ℕ) → q < 2 ^ 53 → 29 ≤ c → r ≡ closest q (2 ^ c) → r ≤ 2 ^ 24
kept_small q c r Q C e =
    let d : q / 2 ^ c < 2 ^ 24 = (div-lt_iff_lt-mul (pow_pos c)).1 (lt_of_lt_of_le Q (le_trans (pow_mono {i = 53} {j = 24 + c} (omega arith)) (le_of_eq (pow-add 2 24 c)))) in
    let l : closest q (2 ^ c) ≤ suc (q / 2 ^ c) = closest_le q (2 ^ c) in
    omega arith

pub middle : (b r : ℕ) → 873 ≤ Field b → Field b < 897 → r ≡ closest (Digits b) (2 ^ (926 - Field b)) → Narrowed b r
middle b r g h e =
    let Q : r ≤ 2 ^ 24 = kept_small (Digits b) (926 - Field b) r (digits_lt b) (omega arith) e in
    from_units b r r 0
    (λ s.
    normal_is b (omega arith) (omega arith) s
    ∙ round_shift binary32 s (Digits b) (Field b - 1) 1074 (926 - Field b) 0 (omega arith) (drop_none (Digits b) 53 (Field b - 1) 149 1074 24 (digits_lt b) (omega arith))
    ∙ ap (λ (x : ℕ). units binary32 s x 0) (sym e))
    Q (inl refl) (omega arith)

-- in the range of normal results, overflow included
kept_big : (q r : ℕ) → 2 ^ 52 ≤ q → r ≡ closest q (2 ^ 29) → 2 ^ 23 ≤ r
kept_big q r h e =
    let d : 2 ^ 23 ≤ q / 2 ^ 29 = (le-div_iff_mul-le (pow_pos 29)).1 h in
    let l : q / 2 ^ 29 ≤ closest q (2 ^ 29) = closest_ge q (2 ^ 29) in
    omega arith

upper_is : (b r q : ℕ) → 897 ≤ Field b → Field b < 2047 → q ≡ closest (Digits b) (2 ^ 29) → min ((Field b - 897) * 2 ^ 23 + q) (255 * 2 ^ 23) ≡ r → Narrowed b r
upper_is b r q g h e m =
    from_units b r q (Field b - 897)
    (λ s.
    normal_is b (omega arith) h s
    ∙ round_shift binary32 s (Digits b) (Field b - 1) 1074 29 (Field b - 897) (omega arith) (drop_some (Digits b) 52 (Field b - 1) 149 1074 24 (Field b - 897) (digits_ge b) (digits_lt b) (lit< tt) (omega arith))
    ∙ ap (λ (x : ℕ). units binary32 s x (Field b - 897)) (sym e))
    (kept_small (Digits b) 29 q (digits_lt b) (lit≤ tt) e) (inr (kept_big (Digits b) q (digits_ge b) e)) m

pub upper : (b q : ℕ) → 897 ≤ Field b → Field b < 1151 → q ≡ closest (Digits b) (2 ^ 29) → Narrowed b ((Field b - 897) * 2 ^ 23 + q)
upper b q g h e =
    let Q : q ≤ 2 ^ 24 = kept_small (Digits b) 29 q (digits_lt b) (lit≤ tt) e in
    upper_is b ((Field b - 897) * 2 ^ 23 + q) q g (omega arith) e (omega arith)

at_infinity : (s : Bool) → narrow binary32 (of_fields binary64 s 2047 0) ≡ inf s
unfolding narrow of_fields
at_infinity s = refl

infinity : (s : Bool) → of_bits binary32 (cond s (top binary32) 0 + 255 * 2 ^ 23) ≡ inf s
unfolding to_bits
infinity s = of_bits-to_bits binary32 (inf s) (inf-fits binary32 s)

pub over : (b : ℕ) → 1151 ≤ Field b → b ≤ 0x7ff0_0000_0000_0000 → Narrowed b 0x7f80_0000
over b g h = let l : Field b ≤ 2047 = omega arith in go (eq-or-lt_of_le l)
  where
    go : (Field b ≡ 2047) ⊎ (Field b < 2047) → Narrowed b 0x7f80_0000
    go (inl e) =
        let z : Frac b ≡ 0 = omega arith in
        record {
          within = lit≤ tt;
          value = λ s. infinity s ∙ sym (ap (λ (x : ℕ). narrow binary32 (of_fields binary64 s x (Frac b))) e ∙ ap (λ (x : ℕ). narrow binary32 (of_fields binary64 s 2047 x)) z ∙ at_infinity s);
        }
    go (inr l) =
        let B : 2 ^ 23 ≤ closest (Digits b) (2 ^ 29) = kept_big (Digits b) (closest (Digits b) (2 ^ 29)) (digits_ge b) refl in
        upper_is b 0x7f80_0000 (closest (Digits b) (2 ^ 29)) (omega arith) l refl (omega arith)
