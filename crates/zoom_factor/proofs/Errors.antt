-- How far a cut term, and a sum of cut terms, can lie below the exact one. Q is the number of units in 1, here 2^30.
use mathlib.Core.Path.{◌≡◌, sym, ap, ◌∙◌, subst}
use Prim.Native.Nat.{ℕ, suc, ◌+◌, ◌-◌, ◌*◌, ◌/◌, ◌%◌, ◌^◌, ◌≤◌, ◌<◌}
use native.Mathlib.Nat.{le_trans, le_of_eq, le_of_mul-le-mul_right, mul-le-mul_right, mul_comm, mod-lt, div-add-mod', pow-suc, pow-zero}
use native.Mathlib.Omega.{arith}
use mathlib.Core.Bool.{Bool, true, false, cond}
use Rattle.zoom_factor.specs.Series.{below_zero, bottom, plus_terms, minus_terms}
use Rattle.zoom_factor.specs.Steps.{Cut, Under}

-- z / q / k, by what it leaves
pub cut_twice : (z q k : ℕ) → 0 < q → 0 < k → (z / q / k * k * q ≤ z) × (z < (z / q / k * k + k) * q)
cut_twice z q k Q K =
    let e : z / q * q + z % q ≡ z = div-add-mod' z q in
    let l : z % q < q = mod-lt z Q in
    let e2 : z / q / k * k + z / q % k ≡ z / q = div-add-mod' (z / q) k in
    let l2 : z / q % k < k = mod-lt (z / q) K in
    let u : z / q / k * k * q ≤ z / q * q = mul-le-mul_right q (first (z / q / k * k) (z / q % k) (z / q) e2) in
    let v : suc (z / q) * q ≤ (z / q / k * k + k) * q = mul-le-mul_right q (last (z / q / k * k) (z / q % k) (z / q) k e2 l2) in
    (omega arith, omega arith)
  where
    first : (a b c : ℕ) → a + b ≡ c → a ≤ c
    first a b c e = omega arith

    last : (a b c k : ℕ) → a + b ≡ c → b < k → suc c ≤ a + k
    last a b c k e h = omega arith

-- the next term: p is a^i, d is i! * b^i, and k is i + 1
term_up : (Q a b x T T' p d k : ℕ) → 0 < Q → x * b ≤ a * Q → T' * k * Q ≤ T * x → T * d ≤ Q * p → T' * (d * (k * b)) ≤ Q * (a * p)
term_up Q a b x T T' p d k P X c h =
    le_of_mul-le-mul_right
    (let u : T' * k * Q * (b * d) ≤ T * x * (b * d) = mul-le-mul_right (b * d) c in
    let v : x * b * (T * d) ≤ a * Q * (T * d) = mul-le-mul_right (T * d) X in
    let w : T * d * (a * Q) ≤ Q * p * (a * Q) = mul-le-mul_right (a * Q) h in
    omega arith) P

term_down : (Q a b x T T' p d k n n' : ℕ) → 0 < Q → a ≤ b → T ≤ Q → a * Q ≤ x * b + b → T * x < (T' * k + k) * Q → Q * p ≤ (T + n) * d → k + 1 + n ≤ k * n' → Q * (a * p) ≤ (T' + n') * (d * (k * b))
term_down Q a b x T T' p d k n n' P A S X c h g =
    le_of_mul-le-mul_right (le_trans first (le_trans second (le_trans (mul-le-mul_right (b * d) third) last))) P
  where
    first : Q * (a * p) * Q ≤ (T + n) * d * (a * Q)
    first = le_trans (regroup Q a p) (mul-le-mul_right (a * Q) h)
      where
        regroup : (Q a p : ℕ) → Q * (a * p) * Q ≤ Q * p * (a * Q)
        regroup Q a p = omega arith

    second : (T + n) * d * (a * Q) ≤ (x * T + T + Q * n) * (b * d)
    second =
        let s : a * Q * (T * d) ≤ (x * b + b) * (T * d) = mul-le-mul_right (T * d) X in
        let t : a * (Q * n * d) ≤ b * (Q * n * d) = mul-le-mul_right (Q * n * d) A in
        joined (a * Q * (T * d)) ((x * b + b) * (T * d)) (a * (Q * n * d)) (b * (Q * n * d)) s t (split T n d a Q) (merged x T Q n b d)
      where
        joined : {g k : ℕ} (u v w z : ℕ) → u ≤ v → w ≤ z → g ≡ u + w → v + z ≡ k → g ≤ k
        joined u v w z p q e f = omega arith

        split : (T n d a Q : ℕ) → (T + n) * d * (a * Q) ≡ a * Q * (T * d) + a * (Q * n * d)
        split T n d a Q = omega arith

        merged : (x T Q n b d : ℕ) → (x * b + b) * (T * d) + b * (Q * n * d) ≡ (x * T + T + Q * n) * (b * d)
        merged x T Q n b d = omega arith

    third : x * T + T + Q * n ≤ Q * k * (T' + n')
    third = let w : (k + 1 + n) * Q ≤ k * n' * Q = mul-le-mul_right Q g in let e : T * x ≡ x * T = mul_comm T x in omega arith

    last : Q * k * (T' + n') * (b * d) ≤ (T' + n') * (d * (k * b)) * Q
    last = le_of_eq (turn Q k (T' + n') b d)
      where
        turn : (Q k v b d : ℕ) → Q * k * v * (b * d) ≡ v * (d * (k * b)) * Q
        turn Q k v b d = omega arith

-- a sum with the next term y, or nothing, added; F is how far the sum lies below, and n how far the term does
sum_up : (Q d g v m y c : ℕ) → v * d ≤ Q * g → c * (d * m) ≤ Q * y → (v + c) * (d * m) ≤ Q * (g * m + y)
sum_up Q d g v m y c h k = let u : v * d * m ≤ Q * g * m = mul-le-mul_right m h in omega arith

sum_down : (Q d g v m y c F n : ℕ) → Q * g ≤ (v + F) * d → Q * y ≤ (c + n) * (d * m) → Q * (g * m + y) ≤ (v + c + (F + n)) * (d * m)
sum_down Q d g v m y c F n h k = let u : Q * g * m ≤ (v + F) * d * m = mul-le-mul_right m h in omega arith

-- x units are cut from themselves
pub itself : (x : ℕ) → Cut x (2 ^ 30) x
itself x = record { low = omega arith; high = omega arith }

-- ---- the loop's facts after k turns
pub record After (s : Bool) (a b t plus minus k : ℕ) : Type 0 where
  pub term : Under t (a ^ k) (bottom b k) (2 * k)
  pub gained : Under plus (plus_terms s a b k) (bottom b k) (k * (k + 1))
  pub lost : Under minus (minus_terms s a b k) (bottom b k) (k * (k + 1))

pub start : (s : Bool) (a b : ℕ) → After s a b (2 ^ 30) (2 ^ 30) 0 0
unfolding bottom plus_terms minus_terms
start s a b = let e : a ^ 0 ≡ 1 = pow-zero a in record {
  term = record { low = omega arith; high = omega arith };
  gained = record { low = omega arith; high = omega arith };
  lost = record { low = omega arith; high = omega arith };
}

two_more : (k : ℕ) → k * (k + 1) + 2 * suc k ≡ suc k * (suc k + 1)
two_more k = omega arith

slack : (k : ℕ) → suc k + 1 + 2 * k ≤ suc k * (2 * suc k)
slack k = omega arith

-- what is not added lies 0 below
none : (d n : ℕ) → Under 0 0 d n
none d n = record { low = omega arith; high = omega arith }

next_sum : (d g v m y c F n F' : ℕ) → F + n ≡ F' → Under v g d F → Under c y (d * m) n → Under (v + c) (g * m + y) (d * m) F'
next_sum d g v m y c F n F' e h k = record {
  low = sum_up (2 ^ 30) d g v m y c h.low k.low;
  high = subst (λ (z : ℕ). 2 ^ 30 * (g * m + y) ≤ (v + c + z) * (d * m)) e (sum_down (2 ^ 30) d g v m y c F n h.high k.high);
}

next_term : (a b x t t' k : ℕ) → a ≤ b → Cut a b x → t ≤ 2 ^ 30 → t' * suc k * 2 ^ 30 ≤ t * x → t * x < (t' * suc k + suc k) * 2 ^ 30 → Under t (a ^ k) (bottom b k) (2 * k) → Under t' (a ^ suc k) (bottom b k * (suc k * b)) (2 * suc k)
next_term a b x t t' k A X S lo hi h = record {
  low = le_trans (term_up (2 ^ 30) a b x t t' (a ^ k) (bottom b k) (suc k) (omega arith) X.low lo h.low) (le_of_eq (ap (λ (z : ℕ). 2 ^ 30 * z) (sym power)));
  high = le_trans (le_of_eq (ap (λ (z : ℕ). 2 ^ 30 * z) power)) (term_down (2 ^ 30) a b x t t' (a ^ k) (bottom b k) (suc k) (2 * k) (2 * suc k) (omega arith) A S X.high hi h.high (slack k));
}
  where
    power : a ^ suc k ≡ a * a ^ k
    power = pow-suc a k ∙ mul_comm (a ^ k) a

less_itself : (t : ℕ) → 0 ≡ t - t
less_itself t = omega arith

nothing : (t : ℕ) → t ≡ t - 0
nothing t = omega arith

pub next : (s : Bool) (a b x t t' plus minus k : ℕ) → a ≤ b → Cut a b x → t ≤ 2 ^ 30 → t' * suc k * 2 ^ 30 ≤ t * x → t * x < (t' * suc k + suc k) * 2 ^ 30
    → After s a b t plus minus k → After s a b t' (plus + (t' - cond (below_zero s (suc k)) t' 0)) (minus + cond (below_zero s (suc k)) t' 0) (suc k)
unfolding bottom plus_terms minus_terms
next s a b x t t' plus minus k A X S lo hi h = let w = go (below_zero s (suc k)) in record { term = y; gained = w.0; lost = w.1 }
  where
    y : Under t' (a ^ suc k) (bottom b k * (suc k * b)) (2 * suc k)
    y = next_term a b x t t' k A X S lo hi h.term

    added : (v g : ℕ) → Under v g (bottom b k) (k * (k + 1)) → Under (v + t') (g * (suc k * b) + a ^ suc k) (bottom b k * (suc k * b)) (suc k * (suc k + 1))
    added v g u = next_sum (bottom b k) g v (suc k * b) (a ^ suc k) t' (k * (k + 1)) (2 * suc k) (suc k * (suc k + 1)) (two_more k) u y

    left : (v g : ℕ) → Under v g (bottom b k) (k * (k + 1)) → Under (v + 0) (g * (suc k * b) + 0) (bottom b k * (suc k * b)) (suc k * (suc k + 1))
    left v g u = next_sum (bottom b k) g v (suc k * b) 0 0 (k * (k + 1)) (2 * suc k) (suc k * (suc k + 1)) (two_more k) u (none (bottom b k * (suc k * b)) (2 * suc k))

    go : (z : Bool) → Under (plus + (t' - cond z t' 0)) (plus_terms s a b k * (suc k * b) + cond z 0 (a ^ suc k)) (bottom b k * (suc k * b)) (suc k * (suc k + 1))
        × Under (minus + cond z t' 0) (minus_terms s a b k * (suc k * b) + cond z (a ^ suc k) 0) (bottom b k * (suc k * b)) (suc k * (suc k + 1))
    go true = (subst (λ (w : ℕ). Under (plus + w) (plus_terms s a b k * (suc k * b) + 0) (bottom b k * (suc k * b)) (suc k * (suc k + 1))) (less_itself t') (left plus (plus_terms s a b k) h.gained), added minus (minus_terms s a b k) h.lost)
    go false = (subst (λ (w : ℕ). Under (plus + w) (plus_terms s a b k * (suc k * b) + a ^ suc k) (bottom b k * (suc k * b)) (suc k * (suc k + 1))) (nothing t') (added plus (plus_terms s a b k) h.gained), left minus (minus_terms s a b k) h.lost)
