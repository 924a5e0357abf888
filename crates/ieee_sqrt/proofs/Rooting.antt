-- The root of q * 2 ^ j, for a q of `prec` digits, rounded to a format: what `root_pattern` computes, for any format. Assumes nothing.
-- i is `prec` + 1 or `prec` + 2, as j is odd or even, so that j is i + 2 * g, and the root of q * 2 ^ i has `prec` + 1 digits: all that the format keeps, and one more. That last digit alone says how to
-- round, since a root that ends with it is never exact.
use mathlib.Core.Path.{◌≡◌, refl, sym, ap, ◌∙◌, subst}
use mathlib.Core.Logic.{◌⊎◌, inl, inr}
use Prim.Native.Nat.{ℕ, suc, ◌+◌, ◌-◌, ◌*◌, ◌/◌, ◌%◌, ◌^◌, ◌≤◌, ◌<◌, min, compare, Ordering}
use native.Mathlib.Nat.{le_trans, le_of_eq, lt_of_lt_of_le, zero-lt-suc, mul-le-mul, mul-le-mul_right, mul-lt-mul_of_pos_right, mul_assoc, mul_left_comm, mul-mul-mul_comm, mul-pos, pow-suc, pow-succ', eq-zero-or-pos, zero-add, eq_of_mul-eq-mul_right}
use native.Mathlib.Numerals.{add-one}
use native.Mathlib.Omega.{arith}
use mathlib.Core.Bool.{Bool, true, false, cond}
use lib.Dec.{T, eqb, eqb→eq, lit≤}
use lib.Arith.{digits_div, digits_mod}
use lib.Pow.{pow-add, pow_pos, pow_mono, shl_lt}
use lib.Ieee.{Format, binary32, binary64, prec, emax, low, size, units, round, nearest, hid, ones, of_bits}
use lib.Ieee.Fits.{two, round_is}
use lib.Ieee.Nearest.{closest, closest_same, div_same}
use Rattle.ieee_sqrt.specs.Sqrt.{isqrt, twice, rooted}
use Rattle.ieee.proofs.Packed.{units_bits, size_exact, twice_hid}
use Rattle.ieee.proofs.Closest.{Cmp, cmp}
use Rattle.ieee_sqrt.proofs.Isqrt.{IsRoot, isqrt_is, not_above, not_below}

-- ---- `nearest` where it is no tie
nearest_lt : (a x u : ℕ) → x < u → nearest a (compare x u) ≡ a
nearest_lt a x u h = go (compare x u) (cmp x u)
  where
    go : (o : Ordering) → Cmp o x u → nearest a o ≡ a
    go Ordering.lt c = refl
    go Ordering.eq c = absurd (omega arith)
    go Ordering.gt c = absurd (omega arith)

nearest_gt : (a x u : ℕ) → u < x → nearest a (compare x u) ≡ suc a
nearest_gt a x u h = go (compare x u) (cmp x u)
  where
    go : (o : Ordering) → Cmp o x u → nearest a o ≡ suc a
    go Ordering.lt c = absurd (omega arith)
    go Ordering.eq c = absurd (omega arith)
    go Ordering.gt c = refl

closest_of : (v a u r : ℕ) → v ≡ a * u + r → r < u → closest v u ≡ nearest a (compare (r * 2) u)
closest_of v a u r e h =
    ap (λ (x : ℕ). closest x u) e
    ∙ ap (λ (x : ℕ). nearest x (compare ((a * u + r) % u * 2) u)) (digits_div a h)
    ∙ ap (λ (x : ℕ). nearest a (compare (x * 2) u)) (digits_mod a h)

-- ---- the root of n * G * G, with G a power of two, from the root t of n
module _ (n t G : ℕ) (G-pos : 0 < G) (is : IsRoot t n) where
  wide_low : t * G ≤ isqrt (n * (G * G))
  wide_low = not_above (t * G) (isqrt (n * (G * G))) (n * (G * G)) (le_trans (le_of_eq (mul-mul-mul_comm t G t G)) (mul-le-mul_right (G * G) is.0)) (isqrt_is (n * (G * G))).1

  wide_high : isqrt (n * (G * G)) < (t + 1) * G
  wide_high =
      not_below (isqrt (n * (G * G))) ((t + 1) * G) (n * (G * G)) (isqrt_is (n * (G * G))).0
      (lt_of_lt_of_le (mul-lt-mul_of_pos_right is.1 (mul-pos G-pos G-pos)) (le_of_eq (mul-mul-mul_comm (t + 1) (t + 1) G G)))

-- the digit below the whole root
unfoldable pub rest : ℕ → ℕ
rest n = cond (eqb (isqrt n * isqrt n) n) 0 1

abbrev zero_one : ℕ → Type 0
zero_one x = x ≡ 0

pub rest_is : (n : ℕ) → (rest n ≤ 1) × (rest n ≡ 0 → isqrt n * isqrt n ≡ n)
unfolding rest
rest_is n = go (eqb (isqrt n * isqrt n) n) (eqb→eq (isqrt n * isqrt n) n)
  where
    no : zero_one 1 → ⊥
    no e = omega arith

    go : (b : Bool) → (T b → isqrt n * isqrt n ≡ n) → (cond b 0 1 ≤ 1) × (zero_one (cond b 0 1) → isqrt n * isqrt n ≡ n)
    go true h = (lit≤ tt, λ e. h tt)
    go false h = (lit≤ tt, λ e. absurd (no e))

pub twice_is : (n : ℕ) → twice n ≡ 2 * isqrt n + rest n
unfolding twice rest
twice_is n = refl

-- an odd t is not the root of an even number
pub odd_inexact : (t m : ℕ) → t % 2 ≡ 1 → t * t ≡ 2 * m → ⊥
odd_inexact t m o e =
    let h : t ≡ 2 * (t / 2) + 1 = omega arith in
    at (t / 2) (sym e ∙ ap (λ (x : ℕ). x * x) h)
  where
    at : (a : ℕ) → 2 * m ≡ (2 * a + 1) * (2 * a + 1) → ⊥
    at a e = omega arith

-- ---- twice the root R, with what lies below it, over 4 * G, to the nearest: t is R / G
at_even : (a G R s : ℕ) → 2 * a * G ≤ R → R < (2 * a + 1) * G → s ≤ 1 → closest (2 * R + s) (4 * G) ≡ a
at_even a G R s l h S =
    closest_of (2 * R + s) a (4 * G) (2 * (R - 2 * a * G) + s) (omega arith) (omega arith)
    ∙ nearest_lt a ((2 * (R - 2 * a * G) + s) * 2) (4 * G) (omega arith)

at_odd : (a G R s : ℕ) → (2 * a + 1) * G ≤ R → R < (2 * a + 1 + 1) * G → s ≤ 1 → (R ≡ (2 * a + 1) * G → s ≡ 0 → ⊥) → closest (2 * R + s) (4 * G) ≡ suc a
at_odd a G R s l h S n =
    closest_of (2 * R + s) a (4 * G) (2 * (R - 2 * a * G) + s) (omega arith) (omega arith)
    ∙ nearest_gt a ((2 * (R - 2 * a * G) + s) * 2) (4 * G) (past (decided (R - (2 * a + 1) * G + s)))
  where
    decided : (x : ℕ) → (x ≡ 0) ⊎ (0 < x)
    decided x = eq-zero-or-pos x

    past : (R - (2 * a + 1) * G + s ≡ 0) ⊎ (0 < R - (2 * a + 1) * G + s) → 4 * G < (2 * (R - 2 * a * G) + s) * 2
    past (inl z) = absurd (n (omega arith) (omega arith))
    past (inr p) = omega arith

closest_root : (t G R s : ℕ) → t * G ≤ R → R < (t + 1) * G → s ≤ 1 → (t % 2 ≡ 1 → R ≡ t * G → s ≡ 0 → ⊥) → closest (2 * R + s) (4 * G) ≡ (t + 1) / 2
closest_root t G R s l h S n = go (eq-zero-or-pos (t % 2))
  where
    go : (t % 2 ≡ 0) ⊎ (0 < t % 2) → closest (2 * R + s) (4 * G) ≡ (t + 1) / 2
    go (inl z) =
        let e : t ≡ 2 * (t / 2) = omega arith in
        at_even (t / 2) G R s (subst (λ (x : ℕ). x * G ≤ R) e l) (subst (λ (x : ℕ). R < (x + 1) * G) e h) S ∙ omega arith
    go (inr z) =
        let e : t ≡ 2 * (t / 2) + 1 = omega arith in
        at_odd (t / 2) G R s (subst (λ (x : ℕ). x * G ≤ R) e l) (subst (λ (x : ℕ). R < (x + 1) * G) e h) S
        (λ a b. n (omega arith) (a ∙ ap (λ (x : ℕ). x * G) (sym e)) b)
        ∙ omega arith

twice_closest : (m t G : ℕ) → 0 < G → IsRoot t (2 * m) → closest (twice (2 * m * (G * G))) (4 * G) ≡ (t + 1) / 2
twice_closest m t G P is =
    let N = 2 * m * (G * G) in
    ap (λ (x : ℕ). closest x (4 * G)) (twice_is N)
    ∙ closest_root t G (isqrt N) (rest N) (wide_low (2 * m) t G P is) (wide_high (2 * m) t G P is) (rest_is N).0
    (λ o a b.
    odd_inexact t m o
    (eq_of_mul-eq-mul_right (G * G) (mul-pos P P) (t * t) (2 * m) (mul-mul-mul_comm t t G G ∙ ap (λ (x : ℕ). x * x) (sym a) ∙ (rest_is N).1 b)))

-- ---- `rooted`, with k = g + 1 digits dropped
half_twice : (n : ℕ) → twice n / 2 ≡ isqrt n
half_twice n =
    let e = twice_is n in
    let r = (rest_is n).0 in
    omega arith

-- the whole part of the root in units
whole_part : (v l : ℕ) → v * 2 ^ l / 2 ^ suc l ≡ v / 2
whole_part v l = div_same (v * 2 ^ l) (2 ^ suc l) v 2 (pow_pos (suc l)) (zero-lt-suc 1) (mul_assoc v (2 ^ l) 2 ∙ ap (λ (x : ℕ). v * x) (sym (pow-suc 2 l)))

regroup : (v l g : ℕ) → v * 2 ^ l * (4 * 2 ^ g) ≡ v * (2 ^ suc l * 2 ^ suc g)
regroup v l g =
    let a : 2 ^ suc l ≡ 2 * 2 ^ l = pow-succ' 2 l in
    let b : 2 ^ suc g ≡ 2 * 2 ^ g = pow-succ' 2 g in
    ap (λ (x : ℕ). v * 2 ^ l * x) (four (2 ^ g)) ∙ sort v (2 ^ l) (2 ^ g) ∙ sym (ap (λ (x : ℕ). v * (x * 2 ^ suc g)) a ∙ ap (λ (x : ℕ). v * (2 * 2 ^ l * x)) b)
  where
    four : (x : ℕ) → 4 * x ≡ 2 * (2 * x)
    four x = omega arith

    sort : (v a b : ℕ) → v * a * (2 * (2 * b)) ≡ v * (2 * a * (2 * b))
    sort v a b = omega arith

size_root : (p g t r : ℕ) → 2 ^ p ≤ t → t < 2 ^ suc p → t * 2 ^ g ≤ r → r < (t + 1) * 2 ^ g → size r ≡ suc (p + g)
size_root p g t r lo hi l h =
    size_exact (p + g) r (le_trans (le_of_eq (pow-add 2 p g)) (le_trans (mul-le-mul_right (2 ^ g) lo) l))
    (lt_of_lt_of_le h (le_trans (mul-le-mul_right (2 ^ g) (le_trans (le_of_eq (add-one t)) hi)) (le_of_eq (sym (pow-add 2 (suc p) g) ∙ ap (λ (x : ℕ). 2 ^ x) (move p g)))))
  where
    move : (p g : ℕ) → suc p + g ≡ suc (p + g)
    move p g = omega arith

pub rooted_is : (f : Format) (n : ℕ) → rooted f n ≡ round f false (twice n) (2 ^ suc (low f))
unfolding rooted
rooted_is f n = refl

pub rooted_units : (f : Format) (m t g : ℕ) → IsRoot t (2 * m) → 2 ^ prec f ≤ t → t < 2 ^ suc (prec f) → rooted f (2 * m * (2 ^ g * 2 ^ g)) ≡ units f false ((t + 1) / 2) (suc g)
rooted_units f m t g is lo hi =
    let G = 2 ^ g in
    let N = 2 * m * (G * G) in
    let l = low f in
    let n = twice N * 2 ^ l in
    let z : size (n / 2 ^ suc l) - prec f ≡ suc g =
    ap (λ (x : ℕ). size x - prec f) (whole_part (twice N) l ∙ half_twice N)
    ∙ ap (λ (x : ℕ). x - prec f) (size_root (prec f) g t (isqrt N) lo hi (wide_low (2 * m) t G (pow_pos g) is) (wide_high (2 * m) t G (pow_pos g) is))
    ∙ drops (prec f) g in
    rooted_is f N
    ∙ round_is f false (twice N) (2 ^ suc l)
    ∙ ap (λ (x : ℕ). units f false (closest n (2 ^ suc l * 2 ^ x)) x) z
    ∙ ap (λ (x : ℕ). units f false x (suc g))
    (closest_same n (2 ^ suc l * 2 ^ suc g) (twice N) (4 * G) (mul-pos (pow_pos (suc l)) (pow_pos (suc g))) (mul-pos (zero-lt-suc 3) (pow_pos g)) (regroup (twice N) l g)
    ∙ twice_closest m t G (pow_pos g) is)
  where
    drops : (p g : ℕ) → suc (p + g) - p ≡ suc g
    drops p g = omega arith

-- ---- the pattern of the root of q * 2 ^ j
pub as_even : (q i : ℕ) → q * 2 ^ suc i ≡ 2 * (q * 2 ^ i)
as_even q i = ap (λ (x : ℕ). q * x) (pow-succ' 2 i) ∙ mul_left_comm q 2 (2 ^ i)

pub as_scaled : (q i j g : ℕ) → j ≡ suc i + (g + g) → 2 * (q * 2 ^ i) * (2 ^ g * 2 ^ g) ≡ q * 2 ^ j
as_scaled q i j g e =
    ap (λ (x : ℕ). x * (2 ^ g * 2 ^ g)) (sym (as_even q i))
    ∙ mul_assoc q (2 ^ suc i) (2 ^ g * 2 ^ g)
    ∙ ap (λ (x : ℕ). q * x) (ap (λ (x : ℕ). 2 ^ suc i * x) (sym (pow-add 2 g g)) ∙ sym (pow-add 2 (suc i) (g + g)) ∙ ap (λ (x : ℕ). 2 ^ x) (sym e))

-- it has p + 1 digits
pub root_low : (p q e t : ℕ) → 2 ≤ p → 2 ^ (p - 1) ≤ q → IsRoot t (q * 2 ^ suc (p + e)) → 2 ^ p ≤ t
root_low p q e t P Q is =
    not_above (2 ^ p) t (q * 2 ^ suc (p + e))
    (le_trans (le_of_eq (sym (pow-add 2 p p) ∙ ap (λ (x : ℕ). 2 ^ x) (same p P) ∙ pow-add 2 (p - 1) (suc p))) (mul-le-mul Q (pow_mono {i = suc p} {j = suc (p + e)} (omega arith))))
    is.1
  where
    same : (p : ℕ) → 2 ≤ p → p + p ≡ p - 1 + suc p
    same p h = omega arith

pub root_high : (p q e t : ℕ) → q < 2 ^ p → e ≤ 1 → IsRoot t (q * 2 ^ suc (p + e)) → t < 2 ^ suc p
root_high p q e t Q E is =
    not_below t (2 ^ suc p) (q * 2 ^ suc (p + e)) is.0
    (lt_of_lt_of_le (shl_lt p (suc (p + e)) Q) (le_trans (pow_mono {i = p + suc (p + e)} {j = suc p + suc p} (omega arith)) (le_of_eq (pow-add 2 (suc p) (suc p)))))

pub big : (f : Format) → 2 ≤ emax f
big binary32 = lit≤ tt
big binary64 = lit≤ tt

-- far below the infinity's pattern
pub far : (e p j o g h t : ℕ) → 2 ≤ e → 2 ≤ p → 0 < h → t < 4 * h → j ≤ 2 * e + (e + p - 2) → j ≡ suc (p + o) + (g + g) → suc g * h + (t + 1) / 2 < (2 * e + 1) * h
far e p j o g h t E P H T L J =
    let a : (g + 3) * h < (2 * e + 1) * h = mul-lt-mul_of_pos_right {m = g + 3} {n = 2 * e + 1} (omega arith) H in
    let b : (g + 3) * h ≡ g * h + 3 * h = omega arith in
    let c : suc g * h ≡ g * h + h = omega arith in
    omega arith

min_l : (a b : ℕ) → a < b → min a b ≡ a
min_l a b h = omega arith

pub four_hid : (p : ℕ) → 2 ≤ p → 2 ^ suc p ≡ 4 * 2 ^ (p - 1)
four_hid p P =
    let a : 2 ^ suc p ≡ 2 * 2 ^ p = pow-succ' 2 p in
    let b : 2 ^ p ≡ 2 * 2 ^ (p - 1) = twice_hid p P in
    omega arith

pub half_le : (t w : ℕ) → t < 2 * w → (t + 1) / 2 ≤ w
half_le t w h = omega arith

pub half_ge : (t w : ℕ) → 2 * w ≤ t → w ≤ (t + 1) / 2
half_ge t w h = omega arith

pub root_value : (f : Format) (q j e g : ℕ) → 2 ^ (prec f - 1) ≤ q → q < 2 ^ prec f → e ≤ 1 → j ≡ suc (prec f + e) + (g + g) → j ≤ 2 * emax f + low f
    → (suc g * hid f + (isqrt (q * 2 ^ suc (prec f + e)) + 1) / 2 < ones f * hid f) × (of_bits f (suc g * hid f + (isqrt (q * 2 ^ suc (prec f + e)) + 1) / 2) ≡ rooted f (q * 2 ^ j))
root_value f q j e g lo hi E J L =
    let p = prec f in
    let t = isqrt (q * 2 ^ suc (p + e)) in
    let is : IsRoot t (q * 2 ^ suc (p + e)) = isqrt_is (q * 2 ^ suc (p + e)) in
    let tl : 2 ^ p ≤ t = root_low p q e t (two f) lo is in
    let th : t < 2 ^ suc p = root_high p q e t hi E is in
    let w : suc g * hid f + (t + 1) / 2 < ones f * hid f = far (emax f) p j e g (hid f) t (big f) (two f) (pow_pos (p - 1)) (lt_of_lt_of_le th (le_of_eq (four_hid p (two f)))) L J in (
      w,
      ap (λ (x : ℕ). of_bits f x) (sym (zero-add (min (suc g * hid f + (t + 1) / 2) (ones f * hid f)) ∙ min_l (suc g * hid f + (t + 1) / 2) (ones f * hid f) w))
          ∙ units_bits f false ((t + 1) / 2) (suc g) (half_le t (2 ^ p) (lt_of_lt_of_le th (le_of_eq (pow-succ' 2 p)))) (inr (half_ge t (hid f) (le_trans (le_of_eq (sym (twice_hid p (two f)))) tl)))
          ∙ sym (rooted_units f (q * 2 ^ (p + e)) t g (subst (λ (x : ℕ). IsRoot t x) (as_even q (p + e)) is) tl th)
          ∙ ap (rooted f) (as_scaled q (p + e) j g J),
    )
