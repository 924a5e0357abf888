-- A word is the pattern of a coordinate in the domain exactly where it is at most 65,536's, the sign taken off. Assumes nothing.
use mathlib.Core.Path.{◌≡◌, refl, sym, subst}
use mathlib.Core.Logic.{◌⊎◌, inl, inr}
use mathlib.Core.Bool.{Bool, true, false, not, ◌&&◌, cond}
use Prim.Native.Nat.{ℕ, zero, suc, ◌+◌, ◌-◌, ◌*◌, ◌/◌, ◌%◌, ◌^◌, ◌≤◌, ◌<◌}
use native.Mathlib.Nat.{le_trans, le_of_eq, mul-one, mul_assoc, mul-le-mul, mul-le-mul_right, le_of_mul-le-mul_right, eq-or-lt_of_le, zero-lt-suc}
use native.Mathlib.Omega.{arith}
use lib.Dec.{T, leb, eqb, leb→le, le→leb, nleb→lt, lit<, lit≤}
use lib.Pow.{pow-add, pow_pos, pow_mono}
use lib.IntN.{pos}
use lib.Ieee.{Float, nan, inf, fin, binary32, up, down, hid, fits, le, of_fields, of_bits}
use lib.Ieee.Bits.{of_bits-fits}
use lib.Ieee.Exact.{HasValue}
use lib.Ieee.Fits.{down_pos, and_l, and_r, and_i}
use lib.Ieee.Order.{transfer}
use Rattle.ieee.proofs.Fields.{low_value, normal_value}
use Rattle.ieee_laws.proofs.Order.{le→below, below→le}
use Rattle.data.specs.Limits.{coordinate_ok, within32, min_coordinate, max_coordinate}

-- 65,536's pattern, and the sign's weight
abbrev max_bits : ℕ
max_bits = 0x4780_0000

abbrev sign : ℕ
sign = 0x8000_0000

abbrev Between : Float → Type 0
Between v = T (le min_coordinate v) × T (le v max_coordinate)

-- ---- a value that is u / c in size, of either sign: n / d is its own fraction
module _ (n d u c : ℕ) (C : 0 < c) (D : 0 < d) (e : n * c ≡ u * d) where
  size_in : u ≤ 65536 * c → n * 1 ≤ 65536 * d
  size_in h = transfer n 65536 d 1 u 65536 c 1 C (lit< tt) e refl (le_trans (le_of_eq (mul-one u)) h)

  size_out : n * 1 ≤ 65536 * d → u ≤ 65536 * c
  size_out h = le_trans (le_of_eq (sym (mul-one u))) (transfer u 65536 c 1 n 65536 d 1 D (lit< tt) (sym e) refl h)

value_in : (v : Float) (s : Bool) (u c : ℕ) → 0 < c → HasValue v s u c → u ≤ 65536 * c → Between v
unfolding min_coordinate max_coordinate of_bits
value_in nan s u c C h b = absurd h
value_in (inf t) s u c C h b = absurd h
value_in (fin true m e) s u c C h b =
    let k = size_in (m * up e) (down e) u c C (down_pos e) h.1 b in
    (below→le (fin true 1 (pos 16)) (fin true m e) tt tt (omega arith), below→le (fin true m e) (fin false 1 (pos 16)) tt tt (omega arith))
value_in (fin false m e) s u c C h b =
    let k = size_in (m * up e) (down e) u c C (down_pos e) h.1 b in
    (below→le (fin true 1 (pos 16)) (fin false m e) tt tt (omega arith), below→le (fin false m e) (fin false 1 (pos 16)) tt tt (omega arith))

value_out : (v : Float) (s : Bool) (u c : ℕ) → 0 < c → HasValue v s u c → Between v → u ≤ 65536 * c
unfolding min_coordinate max_coordinate of_bits
value_out nan s u c C h b = absurd h
value_out (inf t) s u c C h b = absurd h
value_out (fin true m e) s u c C h b =
    let k = le→below (fin true 1 (pos 16)) (fin true m e) tt tt b.0 in
    size_out (m * up e) (down e) u c C (down_pos e) h.1 (omega arith)
value_out (fin false m e) s u c C h b =
    let k = le→below (fin false m e) (fin false 1 (pos 16)) tt tt b.1 in
    size_out (m * up e) (down e) u c C (down_pos e) h.1 (omega arith)

-- ---- by the two fields of a pattern. The limit's are 143 and 0
fields_in : (s : Bool) (x t : ℕ) → t < hid binary32 → x * hid binary32 + t ≤ max_bits → Between (of_fields binary32 s x t)
fields_in s zero t h b =
    let d : t * 2 ^ 0 ≤ 2 ^ 23 = omega arith in
    value_in (of_fields binary32 s 0 t) s (t * 2 ^ 0) (2 ^ 149) (pow_pos 149) (low_value binary32 s t) (le_trans d (lit≤ tt))
fields_in s (suc x) t h b =
    value_in (of_fields binary32 s (suc x) t) s ((hid binary32 + t) * 2 ^ (suc x - 1)) (2 ^ 149) (pow_pos 149)
    (normal_value binary32 s (suc x) t (zero-lt-suc x) (omega arith)) (small (eq-or-lt_of_le field_le))
  where
    field_le : suc x ≤ 143
    field_le = omega arith

    digits_le : hid binary32 + t ≤ 2 ^ 24
    digits_le = omega arith

    small : (suc x ≡ 143) ⊎ (suc x < 143) → (hid binary32 + t) * 2 ^ (suc x - 1) ≤ 65536 * 2 ^ 149
    small (inl e) =
        let d : hid binary32 + t ≤ hid binary32 = omega arith in
        subst (λ (y : ℕ). (hid binary32 + t) * 2 ^ (y - 1) ≤ 65536 * 2 ^ 149) (sym e) (mul-le-mul_right (2 ^ 142) d)
    small (inr l) = mul-le-mul digits_le (pow_mono {i = suc x - 1} {j = 141} (omega arith))

-- no infinity and no NaN
last_out : (s : Bool) (t : ℕ) → Between (of_fields binary32 s 255 t) → ⊥
unfolding of_fields min_coordinate max_coordinate of_bits le
last_out s t = go s (eqb t 0)
  where
    go : (s b : Bool) → Between (cond b (inf s) nan) → ⊥
    go true true h = h.0
    go false true h = h.1
    go s false h = h.0

-- a field of 143 or more
large : (x t : ℕ) → 143 ≤ x → (hid binary32 + t) * 2 ^ (x - 1) ≤ 65536 * 2 ^ 149 → x * hid binary32 + t ≤ max_bits
large x t k h = go (eq-or-lt_of_le k)
  where
    digits_le : (i : ℕ) → i + 142 ≤ x - 1 → (hid binary32 + t) * 2 ^ i ≤ hid binary32
    digits_le i l =
        let p : 2 ^ i * 2 ^ 142 ≤ 2 ^ (x - 1) = le_trans (le_of_eq (sym (pow-add 2 i 142))) (pow_mono l) in
        le_of_mul-le-mul_right {k = 2 ^ 142} (le_trans (le_of_eq (mul_assoc (hid binary32 + t) (2 ^ i) (2 ^ 142))) (le_trans (mul-le-mul {n₁ = hid binary32 + t} {n₂ = hid binary32 + t} (omega arith) p) h)) (pow_pos 142)

    go : (143 ≡ x) ⊎ (143 < x) → x * hid binary32 + t ≤ max_bits
    go (inl e) = omega (arith, digits_le 0 (omega arith))
    go (inr l) = absurd (omega (arith, digits_le 1 (omega arith)))

fields_out : (s : Bool) (x t : ℕ) → x ≤ 255 → t < hid binary32 → Between (of_fields binary32 s x t) → x * hid binary32 + t ≤ max_bits
fields_out s x t k h b = go (eq-or-lt_of_le k) (leb 143 x) (leb→le 143 x) (nleb→lt 143 x)
  where
    go : (x ≡ 255) ⊎ (x < 255) → (c : Bool) → (T c → 143 ≤ x) → (T (not c) → x < 143) → x * hid binary32 + t ≤ max_bits
    go (inl e) c f g = absurd (last_out s t (subst (λ (y : ℕ). Between (of_fields binary32 s y t)) e b))
    go (inr l) false f g = omega (arith, g tt)
    go (inr l) true f g = large x t (f tt) (value_out (of_fields binary32 s x t) s ((hid binary32 + t) * 2 ^ (x - 1)) (2 ^ 149) (pow_pos 149) (normal_value binary32 s x t (omega (arith, f tt)) l) b)

-- ---- a word
same_test : (a b : Bool) → (T a → T b) → (T b → T a) → a ≡ b
same_test true true p q = refl
same_test true false p q = absurd (p tt)
same_test false true p q = absurd (q tt)
same_test false false p q = refl

-- its fields, the sign left out
digits : (w : ℕ) → w % hid binary32 < hid binary32
digits w = omega arith

joined : (w : ℕ) → w % sign / hid binary32 * hid binary32 + w % hid binary32 ≡ w % sign
joined w = omega arith

field_le : (w : ℕ) → w % sign / hid binary32 ≤ 255
field_le w = omega arith

inside : (w : ℕ) → w % sign ≤ max_bits → Between (of_bits binary32 w)
unfolding of_bits
inside w h = fields_in _ (w % sign / hid binary32) (w % hid binary32) (digits w) (subst (λ (y : ℕ). y ≤ max_bits) (sym (joined w)) h)

outside : (w : ℕ) → Between (of_bits binary32 w) → w % sign ≤ max_bits
unfolding of_bits
outside w b = subst (λ (y : ℕ). y ≤ max_bits) (joined w) (fields_out _ (w % sign / hid binary32) (w % hid binary32) (field_le w) (digits w) b)

pub word_is : (w : ℕ) → leb (w % sign) max_bits ≡ coordinate_ok (of_bits binary32 w)
unfolding coordinate_ok within32
word_is w =
    let v = of_bits binary32 w in
    let lo = le min_coordinate v in
    let hi = le v max_coordinate in
    same_test (leb (w % sign) max_bits) (fits binary32 v && (lo && hi))
    (λ h. let b = inside w (leb→le _ _ h) in and_i (fits binary32 v) (lo && hi) (of_bits-fits binary32 w) (and_i lo hi b.0 b.1))
    (λ h. let b = and_r (fits binary32 v) (lo && hi) h in le→leb _ _ (outside w (and_l lo hi b, and_r lo hi b)))
