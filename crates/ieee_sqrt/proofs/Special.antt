-- The root where it is not worked out, by the tests that `sqrt32` and `sqrt64` make: of what is below zero, of the zeros, the infinity and a NaN. For any format. Assumes nothing.
use mathlib.Core.Path.{◌≡◌, refl, sym, ap, ◌∙◌, subst}
use Prim.Native.Nat.{ℕ, zero, suc, ◌+◌, ◌*◌, ◌/◌, ◌%◌, ◌^◌, ◌≤◌, ◌<◌}
use native.Mathlib.Nat.{le_trans, le_of_lt, le_antisymm, le_of_eq, lt_of_le_of_lt, lt_of_lt_of_le, zero-lt-suc, mul-pos, mod-eq_of_lt, mod-le}
use native.Mathlib.Omega.{arith}
use mathlib.Core.Bool.{Bool, true, false, not, cond}
use lib.IntN.{ℤ, pos}
use lib.Dec.{T, leb, eqb, ltb→lt, lt→ltb, nleb→lt}
use lib.Ieee.{Float, nan, inf, fin, Format, binary32, binary64, prec, low, up, down, odd, hid, ones, top, fits, lt, div, is_nan, of_fields, of_bits, to_bits, nan_bits}
use lib.Ieee.Fits.{up_pos}
use lib.Ieee.Bits.{of_bits-to_bits}
use Rattle.ieee_sqrt.specs.Sqrt.{sqrt}
use Rattle.ieee_sqrt.specs.Patterns.{RootOf}
use Rattle.ieee.proofs.Decode.{of_bits_is, at_most_infinity, pattern_no_nan, zero_by_zero}

abbrev +0 : Float
+0 = fin false 0 (pos 0)

-- the constants of the code
zero_is : (f : Format) → of_bits f 0 ≡ +0
unfolding of_bits
zero_is binary32 = refl
zero_is binary64 = refl

infinity_is : (f : Format) → of_bits f (ones f * hid f) ≡ inf false
unfolding of_bits
infinity_is binary32 = refl
infinity_is binary64 = refl

-- ---- x < 0
nothing : (u v : ℕ) → 0 * u * v ≡ 0
nothing u v = omega arith

below_zero : (f : Format) (x : Float) → T (lt x +0) → sqrt f x ≡ nan
unfolding sqrt lt
below_zero f nan h = refl
below_zero f (inf true) h = refl
below_zero f (inf false) h = absurd h
below_zero f (fin false m e) h = let k : m * up e * 1 < 0 * 2 ^ 0 * down e = ltb→lt (m * up e * 1) (0 * 2 ^ 0 * down e) h in absurd (omega (arith, nothing (2 ^ 0) (down e)))
below_zero f (fin true zero e) h = let k : 0 < 0 * up e * 1 + 0 * 2 ^ 0 * down e = ltb→lt 0 (0 * up e * 1 + 0 * 2 ^ 0 * down e) h in absurd (omega (arith, nothing (up e) 1, nothing (2 ^ 0) (down e)))
below_zero f (fin true (suc m) e) h = refl

pub negative_root : (f : Format) (x : Float) → T (lt x (of_bits f 0)) → div f (of_bits f 0) (of_bits f 0) ≡ sqrt f x
negative_root f x h = zero_by_zero f ∙ sym (below_zero f x (subst (λ (z : Float). T (lt x z)) (zero_is f) h))

-- ---- neither x < 0 nor 0 < x
some : (m : ℕ) (e : ℤ) → 0 < suc m * up e * 1
some m e = mul-pos (mul-pos (zero-lt-suc m) (up_pos e)) (zero-lt-suc 0)

neither : (f : Format) (x : Float) → (T (lt x +0) → ⊥) → (T (lt +0 x) → ⊥) → x ≡ sqrt f x
unfolding sqrt lt
neither f nan h k = refl
neither f (inf true) h k = absurd (h tt)
neither f (inf false) h k = refl
neither f (fin s zero e) h k = refl
neither f (fin true (suc m) e) h k = absurd (h (lt→ltb 0 (suc m * up e * 1 + 0 * 2 ^ 0 * down e) (lt_of_lt_of_le (some m e) (omega arith))))
neither f (fin false (suc m) e) h k = absurd (k (lt→ltb (0 * 2 ^ 0 * down e) (suc m * up e * 1) (lt_of_le_of_lt (le_of_eq (nothing (2 ^ 0) (down e))) (some m e))))

pub own_root : (f : Format) (x : Float) → lt x (of_bits f 0) ≡ false → lt (of_bits f 0) x ≡ false → x ≡ sqrt f x
own_root f x h k =
    neither f x (λ t. subst T h (subst (λ (z : Float). T (lt x z)) (sym (zero_is f)) t)) (λ t. subst T k (subst (λ (z : Float). T (lt z x)) (sym (zero_is f)) t))

-- ---- 0 < x
pub above_zero_number : (f : Format) (x : Float) → T (lt (of_bits f 0) x) → T (not (is_nan x))
unfolding lt is_nan
above_zero_number f x h = go x (subst (λ (z : Float). T (lt z x)) (zero_is f) h)
  where
    go : (x : Float) → T (lt +0 x) → T (not (is_nan x))
    go nan t = absurd t
    go (inf s) t = tt
    go (fin s m e) t = tt

no : T (lt +0 +0) → ⊥
unfolding lt
no h = h

pub some_bits : (f : Format) (x : Float) → T (fits f x) → T (lt (of_bits f 0) x) → 0 < to_bits f x
some_bits f x h t = go (to_bits f x) refl
  where
    go : (b : ℕ) → to_bits f x ≡ b → 0 < b
    go zero e = absurd (no (subst (λ (z : Float). T (lt z z)) (zero_is f) (subst (λ (z : Float). T (lt (of_bits f 0) z)) (sym (ap (of_bits f) (sym e) ∙ of_bits-to_bits f x h)) t)))
    go (suc b) e = zero-lt-suc b

-- with the sign set a value is not above zero
odd_signed : (d q k l : ℕ) → T (lt +0 (odd d true q k l)) → ⊥
unfolding odd lt
odd_signed d zero k l h = h
odd_signed d (suc q) k l h = h

signed : (f : Format) (x t : ℕ) → T (lt +0 (of_fields f true x t)) → ⊥
unfolding of_fields lt
signed f zero t h = odd_signed (prec f) t 0 (low f) h
signed f (suc x) t h = go (eqb (suc x) (ones f)) (eqb t 0) h
  where
    go : (u v : Bool) → T (lt +0 (cond u (cond v (inf true) nan) (odd (prec f) true (hid f + t) x (low f)))) → ⊥
    go true true h = h
    go true false h = h
    go false v h = odd_signed (prec f) (hid f + t) x (low f) h

-- so what is above zero, with a pattern that is not below the infinity's, is the infinity
infinite : (f : Format) (x : Float) → T (fits f x) → T (lt (of_bits f 0) x) → ones f * hid f ≤ to_bits f x → x ≡ inf false
infinite f x h t g = go (leb (top f) (to_bits f x)) refl (nleb→lt (top f) (to_bits f x))
  where
    go : (s : Bool) → leb (top f) (to_bits f x) ≡ s → (T (not s) → to_bits f x < top f) → x ≡ inf false
    go true e l =
        absurd (signed f (to_bits f x % top f / hid f) (to_bits f x % hid f)
        (subst (λ (z : Float). T (lt z (of_fields f true (to_bits f x % top f / hid f) (to_bits f x % hid f)))) (zero_is f)
        (subst (λ (z : Float). T (lt (of_bits f 0) z)) (sym (of_bits-to_bits f x h) ∙ of_bits_is f (to_bits f x) ∙ ap (λ (s : Bool). of_fields f s (to_bits f x % top f / hid f) (to_bits f x % hid f)) e) t)))
    go false e l =
        let same : to_bits f x ≡ ones f * hid f = le_antisymm (le_trans (le_of_eq (sym (mod-eq_of_lt (l tt)))) (at_most_infinity f x h (above_zero_number f x t))) g in
        sym (of_bits-to_bits f x h) ∙ ap (of_bits f) same ∙ infinity_is f

pub infinity_root : (f : Format) (x : Float) → T (fits f x) → T (lt (of_bits f 0) x) → ones f * hid f ≤ to_bits f x → x ≡ sqrt f x
unfolding sqrt
infinity_root f x h t g = let e = infinite f x h t g in e ∙ sym (ap (sqrt f) e)

-- ---- the pattern that `root_bits` returned
pub rooted_at : (f : Format) (x : Float) (r : ℕ) → T (fits f x) → to_bits f x < ones f * hid f → RootOf (prec f) (low f) (to_bits f x) r → (r < ones f * hid f) × (of_bits f r ≡ sqrt f x)
rooted_at f x r h l k =
    let v = k.value f refl refl l in
    (v.0, v.1 ∙ ap (sqrt f) (of_bits-to_bits f x h))

pub rooted_no_nan : (f : Format) (r : ℕ) → r < ones f * hid f → T (not (nan_bits f r))
rooted_no_nan f r h = pattern_no_nan f r (le_trans (mod-le r (top f)) (le_of_lt h))
