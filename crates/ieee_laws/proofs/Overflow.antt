-- Where `round` overflows: exactly from 2 ^ (emax + 1) less half a step of the largest values on. For every format. Assumes nothing.
use mathlib.Core.Path.{◌≡◌, refl, sym, ap, ◌∙◌, subst}
use Prim.Native.Nat.{ℕ, suc, ◌+◌, ◌-◌, ◌*◌, ◌/◌, ◌^◌, ◌≤◌, ◌<◌}
use native.Mathlib.Nat.{le_trans, le_of_eq, add_comm, lt_of_lt_of_le, lt_of_not-le, mul-one, mul_assoc, mul_right_comm, mul_left_comm, mul-le-mul_right, le_of_mul-le-mul_right, mul-lt-mul_of_pos_right, mul-pos, pow-succ', div-lt_iff_lt-mul}
use native.Mathlib.Numerals.{add-one}
use native.Mathlib.Omega.{arith}
use mathlib.Core.Bool.{Bool, true, false}
use lib.Dec.{T, lit≤}
use lib.Pow.{pow-add, pow_pos}
use lib.Ieee.{Float, nan, inf, fin, Format, binary32, binary64, prec, emax, low, size, round, neg, le}
use lib.Ieee.Digits.{size-le}
use lib.Ieee.Order.{drop, kept, round_mono}
use Rattle.ieee.proofs.Packed.{pow_le_back}
use Rattle.ieee.proofs.Closest.{Within, closest_within}
use Rattle.ieee_laws.proofs.RoundOrder.{round_neg}
use Rattle.ieee_laws.proofs.Kept.{units_of, kept_le}

abbrev pub edge : Format → ℕ
edge f = (2 ^ (prec f + 1) - 1) * 2 ^ (emax f - prec f)

at_edge : (f : Format) → round f false (edge f) 1 ≡ inf false
unfolding round
at_edge binary32 = refl
at_edge binary64 = refl

top_only : (x : Float) → T (le (inf false) x) → x ≡ inf false
unfolding le
top_only nan h = absurd h
top_only (inf true) h = absurd h
top_only (inf false) h = refl
top_only (fin s m e) h = absurd h

pub from_edge : (f : Format) (s : Bool) (a c : ℕ) → 0 < c → edge f * c ≤ a → round f s a c ≡ inf s
from_edge f s a c C h = go s
  where
    plain : round f false a c ≡ inf false
    plain = top_only (round f false a c) (subst (λ (x : Float). T (le x (round f false a c))) (at_edge f) (round_mono f (edge f) 1 a c (pow_pos 0) C (le_trans h (le_of_eq (sym (mul-one a))))))

    go : (s : Bool) → round f s a c ≡ inf s
    go false = plain
    go true = round_neg f a c ∙ ap neg plain ∙ unfold neg in refl

room : (f : Format) → (prec f ≤ emax f) × (2 ≤ prec f)
room binary32 = (lit≤ tt, lit≤ tt)
room binary64 = (lit≤ tt, lit≤ tt)

-- twice the edge in units, where k digits are dropped at it
edge_units : (p e l k : ℕ) → p ≤ e → k + p ≡ l + suc e → 2 * ((2 ^ (p + 1) - 1) * 2 ^ (e - p) * 2 ^ l) ≡ (2 ^ (p + 1) - 1) * 2 ^ k
edge_units p e l k P K =
    mul_left_comm 2 ((2 ^ (p + 1) - 1) * 2 ^ (e - p)) (2 ^ l)
    ∙ mul_assoc (2 ^ (p + 1) - 1) (2 ^ (e - p)) (2 * 2 ^ l)
    ∙ ap (λ (x : ℕ). (2 ^ (p + 1) - 1) * x) (ap (λ (x : ℕ). 2 ^ (e - p) * x) (sym (pow-succ' 2 l)) ∙ sym (pow-add 2 (e - p) (suc l)) ∙ ap (λ (x : ℕ). 2 ^ x) exponents)
  where
    exponents : e - p + suc l ≡ k
    exponents = omega arith

-- below the edge the result is below 2 ^ (emax + 1)
one_less : (A T u : ℕ) → A + 1 ≡ 2 * T → A * u + u ≡ 2 * (T * u)
one_less A T u e = let k : (A + 1) * u ≡ 2 * T * u = ap (λ (x : ℕ). x * u) e in omega arith

full : (p : ℕ) → 2 ^ (p + 1) - 1 + 1 ≡ 2 * 2 ^ p
full p =
    let a : 2 ^ (p + 1) ≡ 2 * 2 ^ p = ap (λ (x : ℕ). 2 ^ x) (add-one p) ∙ pow-succ' 2 p in
    let b : 0 < 2 ^ p = pow_pos p in
    omega arith

edge_le : (p e l : ℕ) → p ≤ e → (2 ^ (p + 1) - 1) * 2 ^ (e - p) * 2 ^ l ≤ 2 ^ (l + suc e)
edge_le p e l P =
    le_trans (mul-le-mul_right (2 ^ l) (mul-le-mul_right (2 ^ (e - p)) (less (2 ^ (p + 1)))))
    (le_of_eq (ap (λ (x : ℕ). x * 2 ^ l) (sym (pow-add 2 (p + 1) (e - p))) ∙ sym (pow-add 2 (p + 1 + (e - p)) l) ∙ ap (λ (x : ℕ). 2 ^ x) exponents))
  where
    less : (a : ℕ) → a - 1 ≤ a
    less a = omega arith

    exponents : p + 1 + (e - p) + l ≡ l + suc e
    exponents = omega arith

no_carry : (p e l n c k q : ℕ) → p ≤ e → 0 < c → q ≤ 2 ^ p → Within n (c * 2 ^ k) q → size (n / c) - p ≡ k → n < (2 ^ (p + 1) - 1) * 2 ^ (e - p) * 2 ^ l * c → 2 ^ (l + suc e) ≤ q * 2 ^ k → ⊥
no_carry p e l n c k q P C Q w d h v =
    let u = c * 2 ^ k in
    let A = 2 ^ (p + 1) - 1 in
    let a : l + suc e ≤ p + k = pow_le_back (l + suc e) (p + k) (le_trans v (le_trans (mul-le-mul_right (2 ^ k) Q) (le_of_eq (sym (pow-add 2 p k))))) in
    let s : size (n / c) ≤ l + suc e = size-le (n / c) (l + suc e) ((div-lt_iff_lt-mul C).1 (lt_of_lt_of_le h (mul-le-mul_right c (edge_le p e l P)))) in
    let K : k + p ≡ l + suc e = omega arith in
    let t : 2 ^ p ≤ q = le_of_mul-le-mul_right (le_trans (le_of_eq (sym (pow-add 2 p k) ∙ ap (λ (x : ℕ). 2 ^ x) (add_comm p k ∙ K))) v) (pow_pos k) in
    let x : 2 ^ p * u ≤ q * u = mul-le-mul_right u t in
    let low : 2 * (q * u) ≤ 2 * n + u = w.low in
    let y : 2 * n < A * u = lt_of_lt_of_le (double n (A * 2 ^ (e - p) * 2 ^ l * c) h) (le_of_eq (sym (mul_assoc 2 (A * 2 ^ (e - p) * 2 ^ l) c) ∙ ap (λ (x : ℕ). x * c) (edge_units p e l k P K) ∙ units_of A k c)) in
    contradiction (A * u) (2 ^ p * u) (q * u) n u (one_less A (2 ^ p) u (full p)) x low y
  where
    double : (a b : ℕ) → a < b → 2 * a < 2 * b
    double a b h = omega arith

    contradiction : (a t q n u : ℕ) → a + u ≡ 2 * t → t ≤ q → 2 * q ≤ 2 * n + u → 2 * n < a → ⊥
    contradiction a t q n u e x l y = omega arith

pub under_edge : (f : Format) (a c : ℕ) → 0 < c → a < edge f * c → kept (prec f) (a * 2 ^ low f) c * 2 ^ drop (prec f) (a * 2 ^ low f) c < 2 ^ (low f + suc (emax f))
under_edge f a c C h =
    lt_of_not-le (λ v.
    no_carry (prec f) (emax f) (low f) (a * 2 ^ low f) c (drop (prec f) (a * 2 ^ low f) c) (kept (prec f) (a * 2 ^ low f) c) (room f).0 C (kept_le (prec f) (a * 2 ^ low f) c)
    (closest_within (a * 2 ^ low f) (c * 2 ^ drop (prec f) (a * 2 ^ low f) c) (mul-pos C (pow_pos (drop (prec f) (a * 2 ^ low f) c)))) refl
    (lt_of_lt_of_le (mul-lt-mul_of_pos_right h (pow_pos (low f))) (le_of_eq (mul_right_comm (edge f) c (2 ^ low f)))) v)
