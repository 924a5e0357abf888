-- An exponent of size at most 1, by its pattern, and the answer's claim put together.
use mathlib.Core.Path.{◌≡◌, refl, sym, ap, ◌∙◌, subst}
use Prim.Native.Nat.{ℕ, zero, suc, ◌+◌, ◌-◌, ◌*◌, ◌/◌, ◌%◌, ◌^◌, ◌≤◌, ◌<◌}
use native.Mathlib.Nat.{le_trans, le_of_eq, le_of_mul-le-mul_right, not-le_of_lt, mul-le-mul_right, mul-le-mul, zero-lt-suc, le_of_suc-le-suc, lt_of_not-le, le-add_right, eq-or-lt_of_le}
use native.Mathlib.Omega.{arith}
use mathlib.Core.Bool.{Bool, true, false, not}
use mathlib.Core.Logic.{◌⊎◌, inl, inr}
use lib.Dec.{T, leb, leb→le, nleb→lt}
use lib.Pow.{pow-add, pow_pos, pow_mono, pow-lt}
use lib.Ieee.Scale.{finite}
use lib.Ieee.{Float, nan, inf, fin, binary32, hid, fits, is_nan, le, of_fields, of_bits, to_bits}
use lib.Ieee.Exact.{HasValue}
use lib.Ieee.Positive.{num, den, den_pos, value→cross, positive_of_value}
use Rattle.ieee.proofs.Decode.{decode, at_most_infinity}
use Rattle.ieee.proofs.Fields.{low_value, normal_value}
use Rattle.ieee_laws.proofs.Order.{le→below, le_numbers}
use Rattle.zoom_factor.specs.Series.{negative, bottom, plus_terms, minus_terms, numerator, denominator}
use Rattle.zoom_factor.specs.Answer.{Close}
use Rattle.zoom_factor.specs.Steps.{Cut, CutPattern, Summed}
use Rattle.zoom_factor.proofs.Bounds.{bottom_pos, third, close, some_units}

abbrev -1 : Float
-1 = of_bits binary32 0xbf80_0000

abbrev +1 : Float
+1 = of_bits binary32 0x3f80_0000

pub number : (e : Float) → T (le e +1) → T (not (is_nan e))
number e h = (le_numbers e +1 h).0

-- its numerator is at most its denominator
pub at_most_one : (e : Float) → T (le -1 e) → T (le e +1) → num e ≤ den e
unfolding le of_bits
at_most_one nan a b = absurd b
at_most_one (inf true) a b = absurd a
at_most_one (inf false) a b = absurd b
at_most_one (fin true m e) a b = omega (arith, le→below (of_bits binary32 0xbf80_0000) (fin true m e) tt tt a)
at_most_one (fin false m e) a b = omega (arith, le→below (fin false m e) (of_bits binary32 0x3f80_0000) tt tt b)

-- ---- its pattern without the sign
abbrev pattern : Float → ℕ
pattern e = to_bits binary32 e % 2 ^ 31

signed : (v : Float) (s : Bool) (a c : ℕ) → HasValue v s a c → negative v ≡ s
signed nan s a c h = absurd h
signed (inf t) s a c h = absurd h
signed (fin t m e) s a c h = h.0

size_of : (v : Float) (s : Bool) (a c : ℕ) → HasValue v s a c → num v * c ≡ a * den v
size_of nan s a c h = absurd h
size_of (inf t) s a c h = absurd h
size_of (fin t m e) s a c h = h.1

-- a value of size at most 1 is at most 2^149 of the smallest
in_smallest : (v : Float) (s : Bool) (a : ℕ) → num v ≤ den v → HasValue v s a (2 ^ 149) → a ≤ 2 ^ 149
in_smallest v s a h k = le_of_mul-le-mul_right {k = den v} (le_trans (le_of_eq (sym (size_of v s a (2 ^ 149) k))) (le_trans (mul-le-mul_right (2 ^ 149) h) (le_of_eq (turn (den v) (2 ^ 149))))) (den_pos v)
  where
    turn : (x y : ℕ) → x * y ≡ y * x
    turn x y = omega arith

-- the fields of such a value
fields_at_most : (f t : ℕ) → 127 ≤ f → (2 ^ 23 + t) * 2 ^ (f - 1) ≤ 2 ^ 149 → (f ≤ 127) × (t ≤ 0)
fields_at_most f t F h = (le_of_suc-le-suc (lt_of_not-le field), digits)
  where
    field : 128 ≤ f → ⊥
    field g =
        not-le_of_lt (pow-lt {i = 149} {j = 150} (omega arith))
        (le_trans (le_of_eq (pow-add 2 23 127)) (le_trans (mul-le-mul (le-add_right (2 ^ 23) t) (pow_mono {i = 127} {j = f - 1} (omega arith))) h))

    digits : t ≤ 0
    digits =
        let u : 2 ^ 23 + t ≤ 2 ^ 23 = le_of_mul-le-mul_right {k = 2 ^ 126} (le_trans (mul-le-mul {n₁ = 2 ^ 23 + t} {n₂ = 2 ^ 23 + t} (omega arith) (pow_mono {i = 126} {j = f - 1} (omega arith))) (le_trans h (le_of_eq (pow-add 2 23 126)))) (pow_pos 126) in
        omega arith

finite_unit : (e : Float) → T (le -1 e) → T (le e +1) → T (finite e)
unfolding le of_bits
finite_unit nan a b = absurd b
finite_unit (inf true) a b = absurd a
finite_unit (inf false) a b = absurd b
finite_unit (fin s m e) a b = tt

full_field : (s : Bool) → of_fields binary32 s 255 0 ≡ inf s
unfolding of_fields
full_field s = refl

by_fields : (s : Bool) (f t : ℕ) → f ≤ 255 → (255 ≤ f → t ≡ 0) → T (finite (of_fields binary32 s f t)) → num (of_fields binary32 s f t) ≤ den (of_fields binary32 s f t) → (f < 127) ⊎ ((f ≤ 127) × (t ≤ 0))
by_fields s f t F z p h = go (le_or_lt 127 f) (eq-or-lt_of_le F)
  where
    le_or_lt : (a b : ℕ) → (a ≤ b) ⊎ (b < a)
    le_or_lt a b = pick (leb a b) (leb→le a b) (nleb→lt a b)
      where
        pick : (z : Bool) → (T z → a ≤ b) → (T (not z) → b < a) → (a ≤ b) ⊎ (b < a)
        pick true u w = inl (u tt)
        pick false u w = inr (w tt)

    go : (127 ≤ f) ⊎ (f < 127) → (f ≡ 255) ⊎ (f < 255) → (f < 127) ⊎ ((f ≤ 127) × (t ≤ 0))
    go (inr l) g = inl l
    go (inl l) (inl e) = absurd (subst (λ (v : Float). T (finite v)) (ap (λ (x : ℕ). of_fields binary32 s x t) e ∙ ap (λ (x : ℕ). of_fields binary32 s 255 x) (z (le_of_eq (sym e))) ∙ full_field s) p)
    go (inl l) (inr k) = inr (fields_at_most f t l (in_smallest (of_fields binary32 s f t) s ((2 ^ 23 + t) * 2 ^ (f - 1)) h (normal_value binary32 s f t (omega arith) k)))

module _ (e : Float) (held : T (fits binary32 e)) (a : T (le -1 e)) (b : T (le e +1)) where
  s : Bool
  s = leb (2 ^ 31) (to_bits binary32 e)

  is : of_fields binary32 s (pattern e / hid binary32) (pattern e % hid binary32) ≡ e
  unfolding s
  is = decode binary32 e held

  limited : pattern e ≤ 255 * 2 ^ 23
  limited = at_most_infinity binary32 e held (number e b)

  cases : (pattern e / 2 ^ 23 < 127) ⊎ ((pattern e / 2 ^ 23 ≤ 127) × (pattern e % 2 ^ 23 ≤ 0))
  cases =
      by_fields s (pattern e / 2 ^ 23) (pattern e % 2 ^ 23) (omega (arith, limited)) (λ g. omega (arith, limited))
      (subst (λ (v : Float). T (finite v)) (sym is) (finite_unit e a b)) (subst (λ (v : Float). num v ≤ den v) (sym is) (at_most_one e a b))

  pub pattern_small : pattern e ≤ 0x3f80_0000
  pattern_small = elim cases [ inl l ↦ omega arith | inr l ↦ omega (arith, l.0, l.1) ]

  has_sign : (f : ℕ) → pattern e / 2 ^ 23 ≡ f → negative e ≡ s
  has_sign zero g = subst (λ (v : Float). negative v ≡ s) (ap (λ (x : ℕ). of_fields binary32 s x (pattern e % 2 ^ 23)) (sym g) ∙ is) (signed (of_fields binary32 s 0 (pattern e % 2 ^ 23)) s (pattern e % 2 ^ 23 * 2 ^ 0) (2 ^ 149) (low_value binary32 s (pattern e % 2 ^ 23)))
  has_sign (suc f) g =
      subst (λ (v : Float). negative v ≡ s) (ap (λ (x : ℕ). of_fields binary32 s x (pattern e % 2 ^ 23)) (sym g) ∙ is)
      (signed (of_fields binary32 s (suc f) (pattern e % 2 ^ 23)) s ((2 ^ 23 + pattern e % 2 ^ 23) * 2 ^ (suc f - 1)) (2 ^ 149) (normal_value binary32 s (suc f) (pattern e % 2 ^ 23) (zero-lt-suc f) (omega (arith, pattern_small))))

  pub answer : (x h : ℕ) (r : Float) → CutPattern (pattern e) x → ((a b : ℕ) → a ≤ b → 0 < b → Cut a b x → Summed (leb (2 ^ 31) (to_bits binary32 e)) a b h) → HasValue r false ((h + 128) / 256) (2 ^ 22) → Close e r
  unfolding s numerator denominator
  answer x h r c f v =
      let n = num e in
      let d = den e in
      let k : Cut n d x = subst (λ (w : Float). Cut (num w) (den w) x) is (c.cut s) in
      let z : Summed (negative e) n d h = subst (λ (t : Bool). Summed t n d h) (sym (has_sign (pattern e / 2 ^ 23) refl)) (f n d (at_most_one e a b) (den_pos e) k) in
      let t = third (negative e) n d (at_most_one e a b) in
      let D = bottom_pos d 13 (den_pos e) in
      let u = some_units (plus_terms (negative e) n d 13) (minus_terms (negative e) n d 13) (bottom d 13) z.plus z.minus h D t z.is z.gained z.lost in
      record {
        above_zero = positive_of_value r ((h + 128) / 256) (2 ^ 22) v (omega arith);
        sum_above_zero = omega (arith, t, D);
        within = close (plus_terms (negative e) n d 13) (minus_terms (negative e) n d 13) (bottom d 13) z.plus z.minus h ((h + 128) / 256) (num r) (den r) (den_pos r) t z.is z.gained z.lost (omega arith) (omega arith) (value→cross r ((h + 128) / 256) (2 ^ 22) v);
      }
