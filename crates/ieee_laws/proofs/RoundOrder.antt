-- `round` and `sum` keep the order, whatever the signs: of two exact values the larger rounds to one that is no smaller. For every format. Assumes nothing.
use mathlib.Core.Path.{◌≡◌, refl, sym, ap, ◌∙◌, subst}
use Prim.Native.Nat.{ℕ, zero, suc, ◌+◌, ◌-◌, ◌*◌, ◌/◌, ◌%◌, ◌^◌, ◌≤◌, ◌<◌, compare}
use native.Mathlib.Nat.{le_of_eq, not-le_of_lt, zero-lt-suc, zero-mul, mul-pos}
use native.Mathlib.Omega.{arith}
use mathlib.Core.Bool.{Bool, true, false, not, ◌&&◌, cond}
use lib.IntN.{pos}
use lib.Dec.{T, ltb, ltb→lt, nltb→le}
use lib.Pow.{pow_pos}
use lib.Ieee.{Float, inf, fin, Format, binary32, binary64, prec, emax, low, size, nearest, odd, units, round, neg, sum, le, is_nan}
use lib.Ieee.Fits.{round_is}
use lib.Ieee.Order.{round_mono}
use lib.Ieee.Scale.{round_same}
use Rattle.ieee_laws.proofs.Order.{le_trans, neg_anti, le_numbers}

-- ---- with the sign set, `round` gives the negative
odd_neg : (d q k l : ℕ) → odd d true q k l ≡ neg (odd d false q k l)
unfolding odd neg
odd_neg d zero k l = refl
odd_neg d (suc q) k l = refl

units_neg : (f : Format) (q k : ℕ) → units f true q k ≡ neg (units f false q k)
unfolding units
units_neg f q k = go (ltb (q * 2 ^ k) (2 ^ (low f + suc (emax f))))
  where
    go : (b : Bool) → cond b (odd (suc (prec f)) true q k (low f)) (inf true) ≡ neg (cond b (odd (suc (prec f)) false q k (low f)) (inf false))
    go true = odd_neg (suc (prec f)) q k (low f)
    go false = unfold neg in refl

pub round_neg : (f : Format) (a b : ℕ) → round f true a b ≡ neg (round f false a b)
round_neg f a b =
    let n = a * 2 ^ low f in
    let k = size (n / b) - prec f in
    let u = b * 2 ^ k in
    round_is f true a b ∙ units_neg f (nearest (n / u) (compare (n % u * 2) u)) k ∙ ap neg (sym (round_is f false a b))

-- ---- zero
zero_at_one : (f : Format) (s : Bool) → round f s 0 1 ≡ fin s 0 (pos 0)
unfolding round
zero_at_one binary32 s = refl
zero_at_one binary64 s = refl

pub round_zero : (f : Format) (s : Bool) (c : ℕ) → 0 < c → round f s 0 c ≡ fin s 0 (pos 0)
round_zero f s c C = round_same f s 0 c 0 1 C (pow_pos 0) (zero-mul 1 ∙ sym (zero-mul c)) ∙ zero_at_one f s

-- what is rounded with the sign clear is not below 0, and with the sign set not above
pub zero_le_round : (f : Format) (a b : ℕ) → 0 < b → T (le (fin false 0 (pos 0)) (round f false a b))
zero_le_round f a b B = subst (λ (z : Float). T (le z (round f false a b))) (zero_at_one f false) (round_mono f 0 1 a b (pow_pos 0) B (omega arith))

across : (f : Format) (a b c d : ℕ) → 0 < b → 0 < d → T (le (round f true a b) (round f false c d))
across f a b c d B D =
    subst (λ (z : Float). T (le z (round f false c d))) (sym (round_neg f a b))
    (le_trans (neg (round f false a b)) (neg (fin false 0 (pos 0))) (round f false c d) (neg_anti (fin false 0 (pos 0)) (round f false a b) (zero_le_round f a b B))
    (le_trans (neg (fin false 0 (pos 0))) (fin false 0 (pos 0)) (round f false c d) (unfold neg le in tt) (zero_le_round f c d D)))

-- ---- ±a / b ≤ ±c / d, by the parts above 0 and those below
abbrev pub Under : Bool → ℕ → ℕ → Bool → ℕ → ℕ → Type 0
Under s a b t c d = cond s 0 a * d + cond t c 0 * b ≤ cond t 0 c * b + cond s a 0 * d

factor : (a b : ℕ) → 0 < b → a * b ≡ 0 → a ≡ 0
factor zero b B e = refl
factor (suc a) b B e = absurd (not-le_of_lt (mul-pos (zero-lt-suc a) B) (le_of_eq e))

pub round_order : (f : Format) (s t : Bool) (a b c d : ℕ) → 0 < b → 0 < d → Under s a b t c d → T (le (round f s a b) (round f t c d))
round_order f false false a b c d B D h = round_mono f a b c d B D (omega arith)
round_order f true false a b c d B D h = across f a b c d B D
round_order f true true a b c d B D h =
    subst (λ (z : Float). T (le z (round f true c d))) (sym (round_neg f a b))
    (subst (λ (z : Float). T (le (neg (round f false a b)) z)) (sym (round_neg f c d)) (neg_anti (round f false c d) (round f false a b) (round_mono f c d a b D B (omega arith))))
round_order f false true a b c d B D h =
    let a_zero : a ≡ 0 = factor a d D (omega arith) in
    let c_zero : c ≡ 0 = factor c b B (omega arith) in
    subst (λ (w : Float). T (le w (round f true c d))) (sym (ap (λ (k : ℕ). round f false k b) a_zero ∙ round_zero f false b B))
    (subst (λ (w : Float). T (le (fin false 0 (pos 0)) w)) (sym (ap (λ (k : ℕ). round f true k d) c_zero ∙ round_zero f true d D)) (unfold le in tt))

-- what is rounded is a number
pub round_number : (f : Format) (s : Bool) (a b : ℕ) → 0 < b → T (not (is_nan (round f s a b)))
round_number f s a b B = (le_numbers (round f s a b) (round f s a b) (round_order f s s a b a b B B (omega arith))).1

-- ---- `sum` rounds the exact sum ±w / c
pub record Exact (f : Format) (s : Bool) (a : ℕ) (t : Bool) (b c : ℕ) : Type 0 where
  pub sign : Bool
  pub w : ℕ
  pub is : sum f s a t b c ≡ round f sign w c
  pub exact : cond sign 0 w + (cond s a 0 + cond t b 0) ≡ cond sign w 0 + (cond s 0 a + cond t 0 b)

pub sum_exact : (f : Format) (s : Bool) (a : ℕ) (t : Bool) (b c : ℕ) → Exact f s a t b c
sum_exact f false a false b c = record { sign = false; w = a + b; is = unfold sum in refl; exact = omega arith }
sum_exact f true a true b c = record { sign = true; w = a + b; is = unfold sum in refl; exact = omega arith }
sum_exact f false a true b c = go (ltb a b) (ltb→lt a b) (nltb→le a b) (unfold sum in refl)
  where
    go : (x : Bool) → (T x → a < b) → (T (not x) → b ≤ a) → sum f false a true b c ≡ cond x (round f true (b - a) c) (round f false (a - b) c) → Exact f false a true b c
    go true l g e = let k = l tt in record { sign = true; w = b - a; is = e; exact = omega arith }
    go false l g e = let k = g tt in record { sign = false; w = a - b; is = e; exact = omega arith }
sum_exact f true a false b c = go (ltb a b) (ltb b a) (ltb→lt a b) (nltb→le a b) (ltb→lt b a) (nltb→le b a) (unfold sum in refl)
  where
    go : (x y : Bool) → (T x → a < b) → (T (not x) → b ≤ a) → (T y → b < a) → (T (not y) → a ≤ b) → sum f true a false b c ≡ cond x (round f false (b - a) c) (round f (true && y) (a - b) c) → Exact f true a false b c
    go true y l g m n e = let k = l tt in record { sign = false; w = b - a; is = e; exact = omega arith }
    go false true l g m n e = let k = m tt in record { sign = true; w = a - b; is = e; exact = omega arith }
    go false false l g m n e =
        let k = g tt in
        let o = n tt in
        record { sign = false; w = a - b; is = e; exact = omega arith }

pub sum_number : (f : Format) (s : Bool) (a : ℕ) (t : Bool) (b c : ℕ) → 0 < c → T (not (is_nan (sum f s a t b c)))
sum_number f s a t b c C = let x = sum_exact f s a t b c in subst (λ (z : Float). T (not (is_nan z))) (sym x.is) (round_number f x.sign x.w c C)

-- of two exact sums the order is that of what they round to
scaled : (u v m s c : ℕ) → u + m ≡ v + s → u * c + m * c ≡ v * c + s * c
scaled u v m s c e = omega (arith, ap (λ (x : ℕ). x * c) e)

pub sum_order : (f : Format) (s : Bool) (a : ℕ) (t : Bool) (b c : ℕ) (s' : Bool) (a' : ℕ) (t' : Bool) (b' c' : ℕ) → 0 < c → 0 < c'
    → (cond s 0 a + cond t 0 b) * c' + (cond s' a' 0 + cond t' b' 0) * c ≤ (cond s' 0 a' + cond t' 0 b') * c + (cond s a 0 + cond t b 0) * c'
    → T (le (sum f s a t b c) (sum f s' a' t' b' c'))
sum_order f s a t b c s' a' t' b' c' C C' h =
    let x = sum_exact f s a t b c in
    let y = sum_exact f s' a' t' b' c' in
    subst (λ (z : Float). T (le z (sum f s' a' t' b' c'))) (sym x.is)
    (subst (λ (z : Float). T (le (round f x.sign x.w c) z)) (sym y.is)
    (round_order f x.sign y.sign x.w c y.w c' C C'
    (compared (cond x.sign 0 x.w) (cond x.sign x.w 0) (cond s a 0 + cond t b 0) (cond s 0 a + cond t 0 b) c
    (cond y.sign 0 y.w) (cond y.sign y.w 0) (cond s' a' 0 + cond t' b' 0) (cond s' 0 a' + cond t' 0 b') c' x.exact y.exact h)))
  where
    compared : (u v m p c u' v' m' p' c' : ℕ) → u + m ≡ v + p → u' + m' ≡ v' + p' → p * c' + m' * c ≤ p' * c + m * c' → u * c' + v' * c ≤ u' * c + v * c'
    compared u v m p c u' v' m' p' c' e e' h =
        let k = scaled u v m p c' e in
        let l = scaled u' v' m' p' c e' in
        omega arith
