-- The number under the root, from a value's pattern, for any format: what `root_bits` computes. Assumes nothing.
use mathlib.Core.Path.{◌≡◌, refl, sym, ap, ◌∙◌, subst}
use Prim.Native.Nat.{ℕ, zero, suc, ◌+◌, ◌-◌, ◌*◌, ◌/◌, ◌%◌, ◌^◌, ◌≤◌, ◌<◌}
use native.Mathlib.Nat.{le_trans, le_of_eq, lt_of_lt_of_le, lt_of_le_of_lt, lt_irrefl, not-le_of_lt, mod-eq_of_lt, mod-lt, mul-one, mul_assoc, mul_comm, mul_right_comm, mul-le-mul_right, mul-pos, mul-div_cancel, div-lt_iff_lt-mul, div-add-mod', zero-mul, zero-add, le-add_right}
use native.Mathlib.Omega.{arith}
use mathlib.Core.Bool.{Bool, true, false, true≢false}
use lib.Dec.{T, leb, leb→le, not_T, lit≤}
use lib.Pow.{pow-add, pow_pos, pow_mono, shl_lt}
use lib.Count.{count_leading_zeros, leading_top}
use lib.Ieee.{Float, nan, inf, fin, Format, binary32, binary64, prec, emax, low, up, down, hid, ones, top, of_fields, of_bits}
use lib.Ieee.Fits.{down_pos}
use lib.Ieee.Bits.{is_false}
use lib.Ieee.Exact.{HasValue}
use Rattle.ieee_sqrt.specs.Sqrt.{rooted, sqrt}
use Rattle.ieee_sqrt.specs.Patterns.{Radicand, Rooted, RootOf}
use Rattle.ieee.proofs.Packed.{twice_hid, pow_lt_back}
use Rattle.ieee.proofs.Fields.{low_value, normal_value}

-- ---- the root of a value that is a whole number of units
pub sqrt_of_value : (f : Format) (x : Float) (a : ℕ) → HasValue x false a (2 ^ low f) → 0 < a → sqrt f x ≡ rooted f (a * 2 ^ low f)
unfolding sqrt
sqrt_of_value f nan a h A = absurd h
sqrt_of_value f (inf s) a h A = absurd h
sqrt_of_value f (fin true m e) a h A = absurd (true≢false h.0)
sqrt_of_value f (fin false zero e) a h A = absurd (lt_irrefl 0 (subst (λ (x : ℕ). 0 < x) (sym h.1 ∙ ap (λ (x : ℕ). x * 2 ^ low f) (zero-mul (up e)) ∙ zero-mul (2 ^ low f)) (mul-pos A (down_pos e))))
sqrt_of_value f (fin false (suc m) e) a h A =
    ap (λ (x : ℕ). rooted f (x * 2 ^ low f / down e)) h.1
    ∙ ap (λ (x : ℕ). rooted f (x / down e)) (mul_right_comm a (down e) (2 ^ low f))
    ∙ ap (rooted f) (mul-div_cancel (a * 2 ^ low f) (down_pos e))

-- ---- the two fields of a pattern below the infinity's
of_bits_is : (f : Format) (b : ℕ) → of_bits f b ≡ of_fields f (leb (top f) b) (b % top f / hid f) (b % hid f)
unfolding of_bits
of_bits_is f b = refl

infinity_lt : (f : Format) → ones f * hid f ≤ top f
infinity_lt f = le_trans (mul-le-mul_right (hid f) (up_one (ones f))) (le_of_eq (mul_comm (suc (ones f)) (hid f)))
  where
    up_one : (a : ℕ) → a ≤ suc a
    up_one a = omega arith

pub plus_fields : (f : Format) (b : ℕ) → b < top f → of_bits f b ≡ of_fields f false (b / hid f) (b % hid f)
plus_fields f b h =
    of_bits_is f b
    ∙ ap (λ (s : Bool). of_fields f s (b % top f / hid f) (b % hid f)) (is_false (leb (top f) b) (not_T (leb (top f) b) (λ t. not-le_of_lt h (leb→le (top f) b t))))
    ∙ ap (λ (x : ℕ). of_fields f false (x / hid f) (b % hid f)) (mod-eq_of_lt h)

pub sqrt_high : (f : Format) (b : ℕ) → b < ones f * hid f → 0 < b / hid f → sqrt f (of_bits f b) ≡ rooted f ((hid f + b % hid f) * 2 ^ (b / hid f - 1 + low f))
sqrt_high f b B h =
    ap (sqrt f) (plus_fields f b (lt_of_lt_of_le B (infinity_lt f)))
    ∙ sqrt_of_value f (of_fields f false (b / hid f) (b % hid f)) ((hid f + b % hid f) * 2 ^ (b / hid f - 1))
    (normal_value f false (b / hid f) (b % hid f) h ((div-lt_iff_lt-mul (pow_pos (prec f - 1))).1 B))
    (mul-pos (lt_of_lt_of_le (pow_pos (prec f - 1)) (le-add_right (hid f) (b % hid f))) (pow_pos (b / hid f - 1)))
    ∙ ap (rooted f) (mul_assoc (hid f + b % hid f) (2 ^ (b / hid f - 1)) (2 ^ low f) ∙ ap (λ (x : ℕ). (hid f + b % hid f) * x) (sym (pow-add 2 (b / hid f - 1) (low f))))

-- a subnormal's pattern is its digits
no_field : (b h : ℕ) → b / h ≡ 0 → b % h ≡ b
no_field b h e = sym (zero-add (b % h)) ∙ ap (λ (x : ℕ). x + b % h) (sym (zero-mul h) ∙ ap (λ (x : ℕ). x * h) (sym e)) ∙ div-add-mod' b h

pub frac_pos : (b h : ℕ) → 0 < b → b / h ≡ 0 → 0 < b % h
frac_pos b h p e = subst (λ (x : ℕ). 0 < x) (sym (no_field b h e)) p

pub sqrt_low : (f : Format) (b : ℕ) → b < ones f * hid f → 0 < b → b / hid f ≡ 0 → sqrt f (of_bits f b) ≡ rooted f (b % hid f * 2 ^ low f)
sqrt_low f b B p e =
    ap (sqrt f) (plus_fields f b (lt_of_lt_of_le B (infinity_lt f)) ∙ ap (λ (x : ℕ). of_fields f false x (b % hid f)) e)
    ∙ sqrt_of_value f (of_fields f false 0 (b % hid f)) (b % hid f * 2 ^ 0) (low_value f false (b % hid f)) (lt_of_lt_of_le (frac_pos b (hid f) p e) (le_of_eq (sym (mul-one (b % hid f)))))
    ∙ ap (λ (x : ℕ). rooted f (x * 2 ^ low f)) (mul-one (b % hid f))

-- ---- the radicands
pub room : (f : Format) → (prec f + 4 ≤ emax f) × (2 ≤ prec f) × (prec f ≤ 53) × (emax f ≤ 1023)
room binary32 = (lit≤ tt, lit≤ tt, lit≤ tt, lit≤ tt)
room binary64 = (lit≤ tt, lit≤ tt, lit≤ tt, lit≤ tt)

abbrev pub shift : ℕ → ℕ → ℕ
shift p t = count_leading_zeros 64 t + p - 64

-- a subnormal's digits t, moved up
pub record Low (p l t : ℕ) : Type 0 where
  pub reaches : 64 ≤ count_leading_zeros 64 t + p
  pub little : shift p t < 53
  pub fine : shift p t ≤ l
  pub exact : t * 2 ^ shift p t % 2 ^ 64 ≡ t * 2 ^ shift p t
  pub scaled : t * 2 ^ shift p t * 2 ^ (l - shift p t) ≡ t * 2 ^ l
  pub radicand : Radicand p (t * 2 ^ shift p t) (l - shift p t)

pub low_facts : (f : Format) (p l t : ℕ) → p ≡ prec f → l ≡ low f → 0 < t → t < 2 ^ (p - 1) → Low p l t
low_facts f p l t P L T H =
    let r = room f in
    let z = shift p t in
    let a = leading_top 64 t T (lt_of_lt_of_le H (pow_mono {i = p - 1} {j = 64} (omega arith))) in
    let j = a.0 in
    let A : count_leading_zeros 64 t + suc j ≡ 64 = a.1 in
    let J : j < p - 1 = pow_lt_back j (p - 1) (lt_of_le_of_lt a.2 H) in
    let R : 64 ≤ count_leading_zeros 64 t + p = omega arith in
    let Z : j + z ≡ p - 1 = omega arith in
    let hi : t * 2 ^ z < 2 ^ p = lt_of_lt_of_le (shl_lt (suc j) z a.3) (pow_mono {i = suc j + z} {j = p} (omega arith)) in
    record {
      reaches = R;
      little = omega arith;
      fine = omega arith;
      exact = mod-eq_of_lt (lt_of_lt_of_le hi (pow_mono {i = p} {j = 64} (omega arith)));
      scaled = mul_assoc t (2 ^ z) (2 ^ (l - z)) ∙ ap (λ (x : ℕ). t * x) (sym (pow-add 2 z (l - z)) ∙ ap (λ (x : ℕ). 2 ^ x) (omega arith));
      radicand = record {
        format = f;
        keeps = P;
        leading = le_trans (le_of_eq (ap (λ (x : ℕ). 2 ^ x) (sym Z) ∙ pow-add 2 j z)) (mul-le-mul_right (2 ^ z) a.2);
        within = hi;
        enough = omega arith;
        limit = omega arith;
      };
    }

field_lt : (f : Format) (p b : ℕ) → p ≡ prec f → b < ones f * hid f → b / 2 ^ (p - 1) < ones f
field_lt f p b P B = (div-lt_iff_lt-mul (pow_pos (p - 1))).1 (lt_of_lt_of_le B (le_of_eq (ap (λ (x : ℕ). ones f * 2 ^ (x - 1)) (sym P))))

high_limit : (f : Format) (p l b : ℕ) → p ≡ prec f → l ≡ low f → b < ones f * hid f → b / 2 ^ (p - 1) - 1 + l ≤ 2 * emax f + low f
high_limit f p l b P L B = let F = field_lt f p b P B in omega arith

pub high_facts : (f : Format) (p l b : ℕ) → p ≡ prec f → l ≡ low f → b < ones f * hid f → 0 < b / 2 ^ (p - 1) → Radicand p (2 ^ (p - 1) + b % 2 ^ (p - 1)) (b / 2 ^ (p - 1) - 1 + l)
high_facts f p l b P L B h =
    let r = room f in
    let m : b % 2 ^ (p - 1) < 2 ^ (p - 1) = mod-lt b (pow_pos (p - 1)) in
    let w : 2 ^ p ≡ 2 * 2 ^ (p - 1) = twice_hid p (omega arith) in
    record {
      format = f;
      keeps = P;
      leading = le-add_right (2 ^ (p - 1)) (b % 2 ^ (p - 1));
      within = omega arith;
      enough = omega arith;
      limit = high_limit f p l b P L B;
    }

-- ---- from the root of the radicand to the root of the value
pub root_low : (p l b r : ℕ) → 0 < b → b / 2 ^ (p - 1) ≡ 0 → Low p l (b % 2 ^ (p - 1)) → Rooted p (b % 2 ^ (p - 1) * 2 ^ shift p (b % 2 ^ (p - 1))) (l - shift p (b % 2 ^ (p - 1))) r → RootOf p l b r
root_low p l b r A Z k h = record {
  value = λ f P L B.
      let t = b % 2 ^ (p - 1) in
      let v = h.value f P (under (l - shift p t) l (emax f) (low f) (room f).0 (minus l (shift p t)) L) in (
        v.0,
        v.1
            ∙ ap (rooted f) k.scaled
            ∙ ap (λ (x : ℕ). rooted f (b % 2 ^ (x - 1) * 2 ^ l)) P
            ∙ ap (λ (x : ℕ). rooted f (b % hid f * 2 ^ x)) L
            ∙ sym (sqrt_low f b B A (ap (λ (x : ℕ). b / 2 ^ (x - 1)) (sym P) ∙ Z)),
      );
}
  where
    minus : (a b : ℕ) → a - b ≤ a
    minus a b = omega arith

    under : (j l e k : ℕ) {x : ℕ} → x ≤ e → j ≤ l → l ≡ k → j ≤ 2 * e + k
    under j l e k a b c = omega arith

pub root_high : (p l b r : ℕ) → 0 < b / 2 ^ (p - 1) → Rooted p (2 ^ (p - 1) + b % 2 ^ (p - 1)) (b / 2 ^ (p - 1) - 1 + l) r → RootOf p l b r
root_high p l b r A h = record {
  value = λ f P L B.
      let v = h.value f P (high_limit f p l b P L B) in (
        v.0,
        v.1
            ∙ ap (λ (x : ℕ). rooted f ((2 ^ (x - 1) + b % 2 ^ (x - 1)) * 2 ^ (b / 2 ^ (x - 1) - 1 + l))) P
            ∙ ap (λ (x : ℕ). rooted f ((hid f + b % hid f) * 2 ^ (b / hid f - 1 + x))) L
            ∙ sym (sqrt_high f b B (subst (λ (x : ℕ). 0 < b / 2 ^ (x - 1)) P A)),
      );
}
