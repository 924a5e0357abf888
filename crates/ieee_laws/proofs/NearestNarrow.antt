-- `narrow f x` is the value of the format f nearest to x, a tie to the even one, for every format f and every finite x. Assumes nothing.
-- In units of the format's smallest value x is n / c, the result is q * 2 ^ k units (`proofs/Kept.antt`), and any value y of the format is Y units.
use mathlib.Core.Path.{◌≡◌, refl, sym, ap, ◌∙◌, subst}
use mathlib.Core.Logic.{◌⊎◌, inl, inr}
use Prim.Native.Nat.{ℕ, suc, ◌+◌, ◌-◌, ◌*◌, ◌%◌, ◌^◌, ◌≤◌, ◌<◌}
use native.Mathlib.Nat.{le_trans, le_of_eq, le-add_right, lt_of_not-le, zero-mul, mul_assoc, mul_comm, mul_right_comm, mul-le-mul_right, le_of_mul-le-mul_right, eq_of_mul-eq-mul_right, mul-pos, mul-sub, add-mul}
use native.Mathlib.Omega.{arith}
use mathlib.Core.Bool.{Bool, true, false, not, ◌||◌, beq, cond, true≢false}
use lib.IntN.{ℤ}
use lib.Dec.{T, eqb, T_not}
use lib.Pow.{pow_pos}
use lib.Ieee.{Float, nan, inf, fin, Format, binary32, binary64, prec, emax, low, up, down, round, hid, top, fits, eq, ne, to_bits}
use lib.Ieee.Exact.{HasValue, units_val}
use lib.Ieee.Fits.{two, round_is, down_pos, and_i, eq→eqb}
use lib.Ieee.Order.{drop, kept}
use lib.Ieee.Positive.{num, den, den_pos}
use lib.Ieee.Scale.{finite}
use Rattle.ieee_narrow.specs.Narrow.{narrow}
use Rattle.ieee_laws.specs.Nearest.{negative, dist, gap, Overflows, NearestNarrow}
use Rattle.ieee.proofs.Packed.{units_pattern}
use Rattle.ieee.proofs.Closest.{Within, closest_within}
use Rattle.ieee_laws.proofs.Units.{in_units}
use Rattle.ieee_laws.proofs.Kept.{Near, Same, near_value, kept_le, reached, led}
use Rattle.ieee_laws.proofs.Overflow.{edge, from_edge, under_edge}

-- ---- distances in units
sub_mul : (x y k : ℕ) → (x - y) * k ≡ x * k - y * k
sub_mul x y k = mul_comm (x - y) k ∙ mul-sub k x y ∙ ap (λ (z : ℕ). z - k * y) (mul_comm k x) ∙ ap (λ (z : ℕ). x * k - z) (mul_comm k y)

dist_mul : (a b k : ℕ) → dist a b * k ≡ dist (a * k) (b * k)
dist_mul a b k = add-mul (a - b) (b - a) k ∙ ap (λ (z : ℕ). z + (b - a) * k) (sub_mul a b k) ∙ ap (λ (z : ℕ). (a * k - b * k) + z) (sub_mul b a k)

module _ (X c Y d R L : ℕ) (is : Y * L ≡ R * d) where
  over : Y * c * L ≡ R * c * d
  over = mul_right_comm Y c L ∙ ap (λ (z : ℕ). z * c) is ∙ mul_right_comm R d c

  scaled_dist : dist (X * d) (Y * c) * L ≡ dist (X * L) (R * c) * d
  scaled_dist = dist_mul (X * d) (Y * c) L ∙ ap (λ (z : ℕ). dist z (Y * c * L)) (mul_right_comm X d L) ∙ ap (dist (X * L * d)) over ∙ sym (dist_mul (X * L) (R * c) d)

  scaled_sum : (X * d + Y * c) * L ≡ (X * L + R * c) * d
  scaled_sum = add-mul (X * d) (Y * c) L ∙ ap (λ (z : ℕ). z + Y * c * L) (mul_right_comm X d L) ∙ ap (λ (z : ℕ). X * L * d + z) over ∙ sym (add-mul (X * L) (R * c) d)

gap_alike : (s : Bool) (m : ℕ) (e : ℤ) (y : Float) (Y L : ℕ) → HasValue y s Y L → gap (fin s m e) y * L ≡ dist (m * up e * L) (Y * down e) * den y
gap_alike s m e nan Y L h = absurd h
gap_alike s m e (inf t) Y L h = absurd h
gap_alike true m e (fin true n d) Y L h = scaled_dist (m * up e) (down e) (n * up d) (down d) Y L h.1
gap_alike false m e (fin false n d) Y L h = scaled_dist (m * up e) (down e) (n * up d) (down d) Y L h.1
gap_alike true m e (fin false n d) Y L h = absurd (true≢false (sym h.0))
gap_alike false m e (fin true n d) Y L h = absurd (true≢false h.0)

gap_unlike : (s : Bool) (m : ℕ) (e : ℤ) (y : Float) (Y L : ℕ) → HasValue y (not s) Y L → gap (fin s m e) y * L ≡ (m * up e * L + Y * down e) * den y
gap_unlike s m e nan Y L h = absurd h
gap_unlike s m e (inf t) Y L h = absurd h
gap_unlike true m e (fin false n d) Y L h = scaled_sum (m * up e) (down e) (n * up d) (down d) Y L h.1
gap_unlike false m e (fin true n d) Y L h = scaled_sum (m * up e) (down e) (n * up d) (down d) Y L h.1
gap_unlike true m e (fin true n d) Y L h = absurd (true≢false h.0)
gap_unlike false m e (fin false n d) Y L h = absurd (true≢false (sym h.0))

-- ---- two distances with denominators r and y, from those in units
module _ (G H D E r y L : ℕ) (L-pos : 0 < L) (r-pos : 0 < r) (y-pos : 0 < y) (g : G * L ≡ D * r) (h : H * L ≡ E * y) where
  left : G * y * L ≡ D * (r * y)
  left = mul_right_comm G y L ∙ ap (λ (z : ℕ). z * y) g ∙ mul_assoc D r y

  right : H * r * L ≡ E * (r * y)
  right = mul_right_comm H r L ∙ ap (λ (z : ℕ). z * r) h ∙ mul_assoc E y r ∙ ap (λ (z : ℕ). E * z) (mul_comm y r)

  nearer : D ≤ E → G * y ≤ H * r
  nearer k = le_of_mul-le-mul_right (le_trans (le_of_eq left) (le_trans (mul-le-mul_right (r * y) k) (le_of_eq (sym right)))) L-pos

  as_near : G * y ≡ H * r → D ≡ E
  as_near k = eq_of_mul-eq-mul_right (r * y) (mul-pos r-pos y-pos) D E (sym left ∙ ap (λ (z : ℕ). z * L) k ∙ right)

-- ---- values that are one number
one_number : (x y : Float) (s t : Bool) (R L : ℕ) → 0 < L → HasValue x s R L → HasValue y t R L → (s ≡ t) ⊎ (R ≡ 0) → T (eq x y)
unfolding eq
one_number nan y s t R L P h k w = absurd h
one_number (inf u) y s t R L P h k w = absurd h
one_number (fin u m e) nan s t R L P h k w = absurd k
one_number (fin u m e) (inf v) s t R L P h k w = absurd k
one_number (fin u m e) (fin v n d) s t R L P h k w =
    let a : m * up e * down d * L ≡ R * (down e * down d) = mul_right_comm (m * up e) (down d) L ∙ ap (λ (z : ℕ). z * down d) h.1 ∙ mul_assoc R (down e) (down d) in
    let b : n * up d * down e * L ≡ R * (down e * down d) = mul_right_comm (n * up d) (down e) L ∙ ap (λ (z : ℕ). z * down e) k.1 ∙ mul_assoc R (down d) (down e) ∙ ap (λ (z : ℕ). R * z) (mul_comm (down d) (down e)) in
    and_i (eqb (m * up e * down d) (n * up d * down e)) (beq u v || eqb (m * up e * down d) 0) (eq→eqb (eq_of_mul-eq-mul_right L P (m * up e * down d) (n * up d * down e) (a ∙ sym b))) (signs w a)
  where
    alike : (u v c : Bool) → u ≡ v → T (beq u v || c)
    alike true true c g = tt
    alike false false c g = tt
    alike true false c g = absurd (true≢false g)
    alike false true c g = absurd (true≢false (sym g))

    or_r : (c z : Bool) → T z → T (c || z)
    or_r true z g = tt
    or_r false z g = g

    signs : (s ≡ t) ⊎ (R ≡ 0) → m * up e * down d * L ≡ R * (down e * down d) → T (beq u v || eqb (m * up e * down d) 0)
    signs (inl g) a = alike u v (eqb (m * up e * down d) 0) (h.0 ∙ g ∙ sym k.0)
    signs (inr z) a =
        or_r (beq u v) (eqb (m * up e * down d) 0)
        (eq→eqb (eq_of_mul-eq-mul_right L P (m * up e * down d) 0 (a ∙ ap (λ (x : ℕ). x * (down e * down d)) z ∙ zero-mul (down e * down d) ∙ sym (zero-mul L))))

different : (x y : Float) → T (ne x y) → T (eq x y) → ⊥
unfolding ne
different x y o g = T_not (eq x y) o g

-- ---- the last digit
last_digit : (f : Format) (s : Bool) (k q : ℕ) → q % 2 ≡ 0 → (cond s (top f) 0 + (k * hid f + q)) % 2 ≡ 0
last_digit binary32 true k q h = omega arith
last_digit binary32 false k q h = omega arith
last_digit binary64 true k q h = omega arith
last_digit binary64 false k q h = omega arith

-- ---- the theorem
same_or_not : (s t : Bool) → (t ≡ s) ⊎ (t ≡ not s)
same_or_not true true = inl refl
same_or_not true false = inr refl
same_or_not false true = inr refl
same_or_not false false = inl refl

has_sign : (x : Float) (s : Bool) (a c : ℕ) → HasValue x s a c → T (finite x) × (negative x ≡ s)
has_sign nan s a c h = absurd h
has_sign (inf t) s a c h = absurd h
has_sign (fin t m e) s a c h = (tt, h.0)

value_of : (y : Float) (Y L : ℕ) → T (finite y) → num y * L ≡ Y * den y → HasValue y (negative y) Y L
value_of nan Y L p h = absurd p
value_of (inf t) Y L p h = absurd p
value_of (fin t n d) Y L p h = (refl, h)

module _ (f : Format) (s : Bool) (m : ℕ) (e : ℤ) where
  abbrev n : ℕ
  n = m * up e * 2 ^ low f

  abbrev k : ℕ
  k = drop (prec f) n (down e)

  abbrev q : ℕ
  q = kept (prec f) n (down e)

  abbrev r : Float
  r = round f s (m * up e) (down e)

  q_within : Within n (down e * 2 ^ k) q
  q_within = closest_within n (down e * 2 ^ k) (mul-pos (down_pos e) (pow_pos k))

  module _ (u : m * up e < edge f * down e) where
    below_top : q * 2 ^ k < 2 ^ (low f + suc (emax f))
    below_top = under_edge f (m * up e) (down e) (down_pos e) u

    r_value : HasValue r s (q * 2 ^ k) (2 ^ low f)
    r_value = subst (λ (z : Float). HasValue z s (q * 2 ^ k) (2 ^ low f)) (sym (round_is f s (m * up e) (down e))) (units_val f s q k below_top)

    r_even : q % 2 ≡ 0 → to_bits f r % 2 ≡ 0
    r_even h =
        ap (λ (z : Float). to_bits f z % 2) (round_is f s (m * up e) (down e))
        ∙ ap (λ (z : ℕ). z % 2) (units_pattern f s q k (kept_le (prec f) n (down e)) (led (prec f) n (down e) (two f) (down_pos e)) below_top)
        ∙ last_digit f s k q h

    abbrev Nearest : Float → Type 0
    Nearest y = (gap (fin s m e) r * den y ≤ gap (fin s m e) y * den r) × (T (ne r y) → gap (fin s m e) r * den y ≡ gap (fin s m e) y * den r → to_bits f r % 2 ≡ 0)

    near : (b j : ℕ) → b < 2 ^ prec f → Near n (q * 2 ^ k * down e) (b * 2 ^ j * down e) (Same q (q * 2 ^ k) (b * 2 ^ j))
    near b j B = near_value n (down e) q (down_pos e) (prec f) k b j (two f) q_within (reached (prec f) n (down e) (two f) (down_pos e)) B

    r_gap : gap (fin s m e) r * 2 ^ low f ≡ dist n (q * 2 ^ k * down e) * den r
    r_gap = gap_alike s m e r (q * 2 ^ k) (2 ^ low f) r_value

    alike_near : (y : Float) (b j : ℕ) → b < 2 ^ prec f → HasValue y s (b * 2 ^ j) (2 ^ low f) → Nearest y
    alike_near y b j B h =
        let w = near b j B in
        let g = gap_alike s m e y (b * 2 ^ j) (2 ^ low f) h in (
          nearer (gap (fin s m e) r) (gap (fin s m e) y) (dist n (q * 2 ^ k * down e)) (dist n (b * 2 ^ j * down e)) (den r) (den y) (2 ^ low f) (pow_pos (low f)) (den_pos r) (den_pos y) r_gap g w.0,
          λ o t.
              elim (w.1 (as_near (gap (fin s m e) r) (gap (fin s m e) y) (dist n (q * 2 ^ k * down e)) (dist n (b * 2 ^ j * down e)) (den r) (den y) (2 ^ low f) (pow_pos (low f)) (den_pos r) (den_pos y) r_gap g t)) [
                | inl v ↦ absurd (different r y o (one_number r y s s (q * 2 ^ k) (2 ^ low f) (pow_pos (low f)) r_value (subst (λ (z : ℕ). HasValue y s z (2 ^ low f)) (sym v) h) (inl refl)))
                | inr v ↦ r_even v
              ],
        )

    unlike_near : (y : Float) (b j : ℕ) → HasValue y (not s) (b * 2 ^ j) (2 ^ low f) → Nearest y
    unlike_near y b j h =
        let Y = b * 2 ^ j in
        let D = dist n (q * 2 ^ k * down e) in
        let w = near 0 0 (pow_pos (prec f)) in
        let zero_is : 0 * 2 ^ 0 * down e ≡ 0 = ap (λ (z : ℕ). z * down e) (zero-mul (2 ^ 0)) ∙ zero-mul (down e) in
        let to_zero : dist n (0 * 2 ^ 0 * down e) ≡ n = ap (dist n) zero_is ∙ all n in
        let D_le : D ≤ n = le_trans w.0 (le_of_eq to_zero) in
        let g = gap_unlike s m e y Y (2 ^ low f) h in (
          nearer (gap (fin s m e) r) (gap (fin s m e) y) D (n + Y * down e) (den r) (den y) (2 ^ low f) (pow_pos (low f)) (den_pos r) (den_pos y) r_gap g (le_trans D_le (le-add_right n (Y * down e))),
          λ o t.
              let v : D ≡ n + Y * down e = as_near (gap (fin s m e) r) (gap (fin s m e) y) D (n + Y * down e) (den r) (den y) (2 ^ low f) (pow_pos (low f)) (den_pos r) (den_pos y) r_gap g t in
              let both = split D n (Y * down e) D_le v in
              elim (w.1 (both.0 ∙ sym to_zero)) [
                | inl v ↦
                    let R_zero : q * 2 ^ k ≡ 0 = v ∙ zero-mul (2 ^ 0) in
                    let Y_zero : Y ≡ 0 = eq_of_mul-eq-mul_right (down e) (down_pos e) Y 0 (both.1 ∙ sym (zero-mul (down e))) in
                    absurd (different r y o
                    (one_number r y s (not s) 0 (2 ^ low f) (pow_pos (low f)) (subst (λ (z : ℕ). HasValue r s z (2 ^ low f)) R_zero r_value) (subst (λ (z : ℕ). HasValue y (not s) z (2 ^ low f)) Y_zero h) (inr refl)))
                | inr v ↦ r_even v
              ],
        )
      where
        all : (n : ℕ) → dist n 0 ≡ n
        all n = omega arith

        split : (D n z : ℕ) → D ≤ n → D ≡ n + z → (D ≡ n) × (z ≡ 0)
        split D n z h g = (omega arith, omega arith)

    any_near : (y : Float) → T (fits f y) → T (finite y) → Nearest y
    any_near y fy py =
        let v = in_units f y fy py in
        let h = value_of y (v.count * 2 ^ v.scale) (2 ^ low f) py v.is in
        go v.count v.scale (same_or_not s (negative y)) v.few h
      where
        go : (b j : ℕ) → (negative y ≡ s) ⊎ (negative y ≡ not s) → b < 2 ^ prec f → HasValue y (negative y) (b * 2 ^ j) (2 ^ low f) → Nearest y
        go b j (inl g) B h = alike_near y b j B (subst (λ (z : Bool). HasValue y z (b * 2 ^ j) (2 ^ low f)) g h)
        go b j (inr g) B h = unlike_near y b j (subst (λ (z : Bool). HasValue y z (b * 2 ^ j) (2 ^ low f)) g h)

not_infinite : (x : Float) (s : Bool) → x ≡ inf s → T (finite x) → ⊥
not_infinite x s e h = subst (λ (z : Float). T (finite z)) e h

pub nearest_narrow : (f : Format) (x : Float) → T (finite x) → NearestNarrow f x (narrow f x)
unfolding narrow
nearest_narrow f nan p = absurd p
nearest_narrow f (inf s) p = absurd p
nearest_narrow f (fin s m e) p = record {
  overflow = λ o. infinite o;
  within = λ no. has_sign (r f s m e) s (q f s m e * 2 ^ k f s m e) (2 ^ low f) (r_value f s m e (lt_of_not-le no));
  nearest = λ fr y fy py. (any_near f s m e (inside fr) y fy py).0;
  even = λ fr y fy py. (any_near f s m e (inside fr) y fy py).1;
}
  where
    infinite : Overflows f (fin s m e) → round f s (m * up e) (down e) ≡ inf s
    infinite o = from_edge f s (m * up e) (down e) (down_pos e) o

    inside : T (finite (round f s (m * up e) (down e))) → m * up e < edge f * down e
    inside fr = lt_of_not-le (λ o. not_infinite (round f s (m * up e) (down e)) s (infinite o) fr)
