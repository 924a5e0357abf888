-- The sum is at least a third, and its last bound: from the units to the answer's claim.
use mathlib.Core.Path.{◌≡◌, refl, ap, ◌∙◌, subst}
use Prim.Native.Nat.{ℕ, zero, suc, ◌+◌, ◌-◌, ◌*◌, ◌^◌, ◌≤◌, ◌<◌}
use native.Mathlib.Nat.{le_trans, le_of_eq, le_of_mul-le-mul_right, mul-le-mul_right, mul-le-mul, mul-pos, pow-suc, pow-zero, zero-lt-suc}
use native.Mathlib.Omega.{arith}
use mathlib.Core.Bool.{Bool, true, false}
use Rattle.zoom_factor.specs.Series.{below_zero, bottom, plus_terms, minus_terms}
use Rattle.zoom_factor.specs.Answer.{dist}
use Rattle.zoom_factor.specs.Steps.{Under}

pub bottom_pos : (b k : ℕ) → 0 < b → 0 < bottom b k
unfolding bottom
bottom_pos b zero B = omega arith
bottom_pos b (suc k) B = mul-pos (bottom_pos b k B) (mul-pos (zero-lt-suc k) B)

-- the sum of the first terms is at least a third: 3 * plus-terms ≥ 3 * minus-terms + bottom
abbrev Third : ℕ → ℕ → ℕ → Type 0
Third g l d = 3 * l + d ≤ 3 * g

-- without minus-terms
plain : (a b k : ℕ) → (minus_terms false a b k ≡ 0) × (bottom b k ≤ plus_terms false a b k)
unfolding bottom plus_terms minus_terms below_zero
plain a b zero = (refl, omega arith)
plain a b (suc k) =
    let h = plain a b k in
    (ap (λ (z : ℕ). z * (suc k * b) + 0) h.0 ∙ omega arith, le_trans (mul-le-mul_right (suc k * b) h.1) (omega arith))

cubes : (a c : ℕ) → Third (((1 * (1 * (a + c)) + 0) * (2 * (a + c)) + a * a) * (3 * (a + c)) + 0) (((0 * (1 * (a + c)) + a) * (2 * (a + c)) + 0) * (3 * (a + c)) + a * a * a) (1 * (1 * (a + c)) * (2 * (a + c)) * (3 * (a + c)))
cubes a c = omega arith

-- with the odd ones lost: the first four terms, and then two by two
four : (a c : ℕ) → Third (((1 * (1 * (a + c)) + 0) * (2 * (a + c)) + a ^ 2) * (3 * (a + c)) + 0) (((0 * (1 * (a + c)) + a ^ 1) * (2 * (a + c)) + 0) * (3 * (a + c)) + a ^ 3) (1 * (1 * (a + c)) * (2 * (a + c)) * (3 * (a + c)))
four a c =
    let e1 : a ^ 1 ≡ a = pow-suc a 0 ∙ ap (λ (z : ℕ). z * a) (pow-zero a) ∙ omega arith in
    let e2 : a ^ 2 ≡ a * a = pow-suc a 1 ∙ ap (λ (z : ℕ). z * a) e1 in
    let e3 : a ^ 3 ≡ a * a * a = pow-suc a 2 ∙ ap (λ (z : ℕ). z * a) e2 in
    rw (e1, e2, e3) (cubes a c)

two_more : (a b g l d p p' k : ℕ) → a ≤ b → p' ≡ p * a → Third g l d → Third ((g * (suc k * b) + p) * (suc (suc k) * b) + 0) ((l * (suc k * b) + 0) * (suc (suc k) * b) + p') (d * (suc k * b) * (suc (suc k) * b))
two_more a b g l d p p' k A e h =
    let X = suc k * b in
    let Y = suc (suc k) * b in
    goal X Y (mul-le-mul_right (X * Y) h) (le_trans (le_of_eq e) (le_trans (mul-le-mul {n₁ = p} {n₂ = p} (omega arith) A) (mul-le-mul {n₁ = p} {n₂ = p} (omega arith) (more b k))))
  where
    more : (b k : ℕ) → b ≤ suc (suc k) * b
    more b k = omega arith

    goal : (X Y : ℕ) → (3 * l + d) * (X * Y) ≤ 3 * g * (X * Y) → p' ≤ p * Y → Third ((g * X + p) * Y + 0) ((l * X + 0) * Y + p') (d * X * Y)
    goal X Y u v = omega arith

three : (a b : ℕ) → a ≤ b → Third (plus_terms true a b 3) (minus_terms true a b 3) (bottom b 3)
unfolding bottom plus_terms minus_terms below_zero
three a b A = subst (λ (z : ℕ). Third (plus_terms true a z 3) (minus_terms true a z 3) (bottom z 3)) (back a b A) (four a (b - a))
  where
    back : (a b : ℕ) → a ≤ b → a + (b - a) ≡ b
    back a b A = omega arith

five : (a b : ℕ) → a ≤ b → Third (plus_terms true a b 5) (minus_terms true a b 5) (bottom b 5)
unfolding bottom plus_terms minus_terms below_zero
five a b A = two_more a b (plus_terms true a b 3) (minus_terms true a b 3) (bottom b 3) (a ^ 4) (a ^ 5) 3 A (pow-suc a 4) (three a b A)

seven : (a b : ℕ) → a ≤ b → Third (plus_terms true a b 7) (minus_terms true a b 7) (bottom b 7)
unfolding bottom plus_terms minus_terms below_zero
seven a b A = two_more a b (plus_terms true a b 5) (minus_terms true a b 5) (bottom b 5) (a ^ 6) (a ^ 7) 5 A (pow-suc a 6) (five a b A)

nine : (a b : ℕ) → a ≤ b → Third (plus_terms true a b 9) (minus_terms true a b 9) (bottom b 9)
unfolding bottom plus_terms minus_terms below_zero
nine a b A = two_more a b (plus_terms true a b 7) (minus_terms true a b 7) (bottom b 7) (a ^ 8) (a ^ 9) 7 A (pow-suc a 8) (seven a b A)

eleven : (a b : ℕ) → a ≤ b → Third (plus_terms true a b 11) (minus_terms true a b 11) (bottom b 11)
unfolding bottom plus_terms minus_terms below_zero
eleven a b A = two_more a b (plus_terms true a b 9) (minus_terms true a b 9) (bottom b 9) (a ^ 10) (a ^ 11) 9 A (pow-suc a 10) (nine a b A)

thirteen : (a b : ℕ) → a ≤ b → Third (plus_terms true a b 13) (minus_terms true a b 13) (bottom b 13)
unfolding bottom plus_terms minus_terms below_zero
thirteen a b A = two_more a b (plus_terms true a b 11) (minus_terms true a b 11) (bottom b 11) (a ^ 12) (a ^ 13) 11 A (pow-suc a 12) (eleven a b A)

-- the sum is at least a third
pub third : (s : Bool) (a b : ℕ) → a ≤ b → Third (plus_terms s a b 13) (minus_terms s a b 13) (bottom b 13)
third true a b A = thirteen a b A
third false a b A = let h = plain a b 13 in omega (arith, h.0, h.1)

-- ---- from units to the claim. g - l over d is the sum, h the units computed, w the answer's 2^-22, and n / m the answer
pub close : (g l d plus minus h w n m : ℕ) → 0 < m → Third g l d → plus ≡ h + minus → Under plus g d 182 → Under minus l d 182 → w * 256 ≤ h + 128 → h + 128 < w * 256 + 256 → n * 2 ^ 22 ≡ w * m
    → dist (n * d) ((g - l) * m) * 1000000 ≤ (g - l) * m
close g l d plus minus h w n m M t e p q lo hi v =
    last (n * d) (S * m) (d * m) (w * d * m) u1 u2 u3 (le_trans (mul-le-mul_right m (d_le d g l t)) (le_of_eq (three_by S m)))
  where
    S : ℕ
    S = g - l

    d_le : (d g l : ℕ) → Third g l d → d ≤ 3 * (g - l)
    d_le d g l t = omega arith

    three_by : (S m : ℕ) → 3 * S * m ≡ 3 * (S * m)
    three_by S m = omega arith

    units : (w * d * 256 ≤ 2 ^ 30 * (g - l) + 310 * d) × (2 ^ 30 * (g - l) ≤ w * d * 256 + 310 * d)
    units =
        let a : plus * d ≡ (h + minus) * d = ap (λ (z : ℕ). z * d) e in
        let b : w * 256 * d ≤ (h + 128) * d = mul-le-mul_right d lo in
        let c : (h + 128) * d ≤ (w * 256 + 256) * d = mul-le-mul_right d (weaken (h + 128) (w * 256 + 256) hi) in
        let p1 = p.low in
        let p2 = p.high in
        let q1 = q.low in
        let q2 = q.high in
        (omega arith, omega arith)
      where
        weaken : (a b : ℕ) → a < b → a ≤ b
        weaken a b h = omega arith

    u1 : w * d * m * 256 ≤ 2 ^ 30 * (S * m) + 310 * (d * m)
    u1 = le_trans (le_of_eq (turn (w * d) m)) (le_trans (mul-le-mul_right m units.0) (le_of_eq (spread S d m)))
      where
        turn : (x m : ℕ) → x * m * 256 ≡ x * 256 * m
        turn x m = omega arith

        spread : (S d m : ℕ) → (2 ^ 30 * S + 310 * d) * m ≡ 2 ^ 30 * (S * m) + 310 * (d * m)
        spread S d m = omega arith

    u2 : 2 ^ 30 * (S * m) ≤ w * d * m * 256 + 310 * (d * m)
    u2 = le_trans (le_of_eq (turn S m)) (le_trans (mul-le-mul_right m units.1) (le_of_eq (spread (w * d) d m)))
      where
        turn : (S m : ℕ) → 2 ^ 30 * (S * m) ≡ 2 ^ 30 * S * m
        turn S m = omega arith

        spread : (x d m : ℕ) → (x * 256 + 310 * d) * m ≡ x * m * 256 + 310 * (d * m)
        spread x d m = omega arith

    u3 : n * d * 2 ^ 22 ≡ w * d * m
    u3 = turn n d ∙ ap (λ (z : ℕ). z * d) v ∙ again w m d
      where
        turn : (n d : ℕ) → n * d * 2 ^ 22 ≡ n * 2 ^ 22 * d
        turn n d = omega arith

        again : (w m d : ℕ) → w * m * d ≡ w * d * m
        again w m d = omega arith

    last : (N U D W : ℕ) → W * 256 ≤ 2 ^ 30 * U + 310 * D → 2 ^ 30 * U ≤ W * 256 + 310 * D → N * 2 ^ 22 ≡ W → D ≤ 3 * U → dist N U * 1000000 ≤ U
    last N U D W a b c f = omega arith

-- the units computed are at least some
pub some_units : (g l d plus minus h : ℕ) → 0 < d → Third g l d → plus ≡ h + minus → Under plus g d 182 → Under minus l d 182 → 2 ^ 30 ≤ 3 * h + 546
some_units g l d plus minus h D t e p q =
    le_of_mul-le-mul_right {k = d} (let a : plus * d ≡ (h + minus) * d = ap (λ (z : ℕ). z * d) e in let b = p.high in let c = q.low in omega arith) D
