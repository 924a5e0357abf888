-- Operations that keep the order: where the operands do not fall, neither does the rounded result. For every format. Assumes nothing.
-- Narrowing, the root, the sum and the product of sizes; a sum with what is not below 0 is not below the other operand; a difference from what is not above is not below 0.
use mathlib.Core.Path.{◌≡◌, refl, sym, ap, ◌∙◌, subst}
use Prim.Native.Nat.{ℕ, zero, suc, ◌+◌, ◌*◌, ◌/◌, ◌^◌, ◌≤◌, ◌<◌}
use native.Mathlib.Nat.{le_trans, le_of_eq, not-le_of_lt, zero-lt-suc, zero-mul, mul-zero, mul-one, add-mul, mul_comm, mul-pos, mul-le-mul, mul-le-mul_right, mul_right_comm, mul-mul-mul_comm}
use native.Mathlib.Omega.{arith}
use mathlib.Core.Bool.{Bool, true, false, not, cond}
use lib.IntN.{ℤ, pos}
use lib.Dec.{T, eqb}
use lib.Pow.{pow_pos}
use lib.Ieee.{Float, nan, inf, fin, Format, low, up, down, unlike, round, neg, sum, add, sub, mul, le, fits, is_nan}
use lib.Ieee.Fits.{up_pos, down_pos, eq→eqb}
use lib.Ieee.Nearest.{div_mono}
use lib.Ieee.Scale.{finite}
use Rattle.ieee_narrow.specs.Narrow.{narrow}
use Rattle.ieee_sqrt.specs.Sqrt.{twice, rooted, sqrt}
use Rattle.ieee_laws.proofs.Order as order
use Rattle.ieee_laws.proofs.Order.{plus_le, zeros_le, Below, le→below, below→le, le_numbers, le_infinity, minus_infinity_le}
use Rattle.ieee_laws.proofs.RoundOrder.{Under, round_zero, zero_le_round, round_order, round_number, sum_order, sum_exact}
use Rattle.ieee_laws.proofs.Exact.{narrow_exact}
use Rattle.ieee_sqrt.proofs.Rooting.{rooted_is}
use Rattle.ieee_laws.proofs.RootOrder.{rooted_mono}

abbrev pub +0 : Float
+0 = fin false 0 (pos 0)

-- ---- narrowing, for all values
narrow_number : (f : Format) (x : Float) → T (not (is_nan x)) → T (not (is_nan (narrow f x)))
unfolding narrow is_nan
narrow_number f nan h = h
narrow_number f (inf s) h = tt
narrow_number f (fin s m e) h = round_number f s (m * up e) (down e) (down_pos e)

pub narrow_mono : (f : Format) (x y : Float) → T (le x y) → T (le (narrow f x) (narrow f y))
unfolding narrow le
narrow_mono f nan y h = absurd h
narrow_mono f (inf true) y h = minus_infinity_le (narrow f y) (narrow_number f y (le_numbers (inf true) y h).1)
narrow_mono f (inf false) nan h = absurd h
narrow_mono f (inf false) (inf true) h = absurd h
narrow_mono f (inf false) (inf false) h = tt
narrow_mono f (inf false) (fin t n d) h = absurd h
narrow_mono f (fin s m e) nan h = absurd h
narrow_mono f (fin s m e) (inf true) h = absurd h
narrow_mono f (fin s m e) (inf false) h = le_infinity (narrow f (fin s m e)) (narrow_number f (fin s m e) (le_numbers (fin s m e) (inf false) h).0)
narrow_mono f (fin s m e) (fin t n d) h = round_order f s t (m * up e) (down e) (n * up d) (down d) (down_pos e) (down_pos d) (le→below (fin s m e) (fin t n d) tt tt h)

-- ---- sums, of all values whose sums are numbers
infinite_l : (f : Format) (s : Bool) (y : Float) → T (not (is_nan (add f (inf s) y))) → add f (inf s) y ≡ inf s
unfolding add is_nan
infinite_l f s nan h = absurd h
infinite_l f true (inf true) h = refl
infinite_l f true (inf false) h = absurd h
infinite_l f false (inf true) h = absurd h
infinite_l f false (inf false) h = refl
infinite_l f s (fin t n d) h = refl

infinite_r : (f : Format) (s : Bool) (x : Float) → T (not (is_nan (add f x (inf s)))) → add f x (inf s) ≡ inf s
unfolding add is_nan
infinite_r f s nan h = absurd h
infinite_r f true (inf true) h = refl
infinite_r f true (inf false) h = absurd h
infinite_r f false (inf true) h = absurd h
infinite_r f false (inf false) h = refl
infinite_r f s (fin t n d) h = refl

low_sum : (a b : Float) → T (not (is_nan b)) → a ≡ inf true → T (le a b)
low_sum a b h e = subst (λ (z : Float). T (le z b)) (sym e) (minus_infinity_le b h)

high_sum : (a b : Float) → T (not (is_nan a)) → b ≡ inf false → T (le a b)
high_sum a b h e = subst (λ (z : Float). T (le a z)) (sym e) (le_infinity a h)

-- over one denominator
parts : (s : Bool) (a d : ℕ) → (cond s 0 (a * d) ≡ cond s 0 a * d) × (cond s (a * d) 0 ≡ cond s a 0 * d)
parts true a d = (sym (zero-mul d), refl)
parts false a d = (refl, sym (zero-mul d))

spread : (P h Q d u v H D : ℕ) → h * v ≡ H → d * u ≡ D → (P * h + Q * d) * (u * v) ≡ P * u * H + Q * v * D
spread P h Q d u v H D a b = sorted ∙ ap (λ (z : ℕ). P * u * z + Q * v * (d * u)) a ∙ ap (λ (z : ℕ). P * u * H + Q * v * z) b
  where
    sorted : (P * h + Q * d) * (u * v) ≡ P * u * (h * v) + Q * v * (d * u)
    sorted = omega arith

combined : (k l u v a b c d a' b' c' d' : ℕ) → k ≡ a + b → l ≡ c + d → u ≡ a' + b' → v ≡ c' + d' → a + c ≤ a' + c' → b + d ≤ b' + d' → k + l ≤ u + v
combined k l u v a b c d a' b' c' d' p q r s x y = omega arith

times : (a b c d k : ℕ) → a + b ≤ c + d → a * k + b * k ≤ c * k + d * k
times a b c d k h = le_trans (le_of_eq (sym (add-mul a b k))) (le_trans (mul-le-mul_right k h) (le_of_eq (add-mul c d k)))

summed : (P M d P' M' d' Q N h Q' N' h' : ℕ) → P * d' + M' * d ≤ P' * d + M * d' → Q * h' + N' * h ≤ Q' * h + N * h'
    → (P * h + Q * d) * (d' * h') + (M' * h' + N' * d') * (d * h) ≤ (P' * h' + Q' * d') * (d * h) + (M * h + N * d) * (d' * h')
summed P M d P' M' d' Q N h Q' N' h' x y =
    let H = h * h' in
    let D = d * d' in
    combined ((P * h + Q * d) * (d' * h')) ((M' * h' + N' * d') * (d * h)) ((P' * h' + Q' * d') * (d * h)) ((M * h + N * d) * (d' * h'))
    (P * d' * H) (Q * h' * D) (M' * d * H) (N' * h * D) (P' * d * H) (Q' * h * D) (M * d' * H) (N * h' * D)
    (spread P h Q d d' h' H D refl refl) (spread M' h' N' d' d h H D (mul_comm h' h) (mul_comm d' d)) (spread P' h' Q' d' d h H D (mul_comm h' h) (mul_comm d' d)) (spread M h N d d' h' H D refl refl)
    (times (P * d') (M' * d) (P' * d) (M * d') H x) (times (Q * h') (N' * h) (Q' * h) (N * h') D y)

finite_sums : (f : Format) (s : Bool) (m : ℕ) (e : ℤ) (s' : Bool) (m' : ℕ) (e' : ℤ) (t : Bool) (n : ℕ) (d : ℤ) (t' : Bool) (n' : ℕ) (d' : ℤ)
    → Below (fin s m e) (fin s' m' e') → Below (fin t n d) (fin t' n' d') → T (le (add f (fin s m e) (fin t n d)) (add f (fin s' m' e') (fin t' n' d')))
unfolding add
finite_sums f s m e s' m' e' t n d t' n' d' h k =
    let p = parts s (m * up e) (down d) in
    let q = parts t (n * up d) (down e) in
    let p' = parts s' (m' * up e') (down d') in
    let q' = parts t' (n' * up d') (down e') in
    sum_order f s (m * up e * down d) t (n * up d * down e) (down e * down d) s' (m' * up e' * down d') t' (n' * up d' * down e') (down e' * down d') (mul-pos (down_pos e) (down_pos d)) (mul-pos (down_pos e') (down_pos d'))
    (rw (p.0, q.0, p'.0, q'.0, p.1, q.1, p'.1, q'.1)
    (summed (cond s 0 (m * up e)) (cond s (m * up e) 0) (down e) (cond s' 0 (m' * up e')) (cond s' (m' * up e') 0) (down e')
    (cond t 0 (n * up d)) (cond t (n * up d) 0) (down d) (cond t' 0 (n' * up d')) (cond t' (n' * up d') 0) (down d') h k))

pub add_mono : (f : Format) (x x' y y' : Float) → T (le x x') → T (le y y') → T (not (is_nan (add f x y))) → T (not (is_nan (add f x' y'))) → T (le (add f x y) (add f x' y'))
unfolding le
add_mono f nan x' y y' h k p q = absurd h
add_mono f (inf true) x' y y' h k p q = low_sum (add f (inf true) y) (add f x' y') q (infinite_l f true y p)
add_mono f (inf false) nan y y' h k p q = absurd h
add_mono f (inf false) (inf true) y y' h k p q = absurd h
add_mono f (inf false) (inf false) y y' h k p q = high_sum (add f (inf false) y) (add f (inf false) y') p (infinite_l f false y' q)
add_mono f (inf false) (fin s m e) y y' h k p q = absurd h
add_mono f (fin s m e) nan y y' h k p q = absurd h
add_mono f (fin s m e) (inf true) y y' h k p q = absurd h
add_mono f (fin s m e) (inf false) y y' h k p q = high_sum (add f (fin s m e) y) (add f (inf false) y') p (infinite_l f false y' q)
add_mono f (fin s m e) (fin s' m' e') nan y' h k p q = absurd k
add_mono f (fin s m e) (fin s' m' e') (inf true) y' h k p q = low_sum (add f (fin s m e) (inf true)) (add f (fin s' m' e') y') q (infinite_r f true (fin s m e) p)
add_mono f (fin s m e) (fin s' m' e') (inf false) nan h k p q = absurd k
add_mono f (fin s m e) (fin s' m' e') (inf false) (inf true) h k p q = absurd k
add_mono f (fin s m e) (fin s' m' e') (inf false) (inf false) h k p q = high_sum (add f (fin s m e) (inf false)) (add f (fin s' m' e') (inf false)) p (infinite_r f false (fin s' m' e') q)
add_mono f (fin s m e) (fin s' m' e') (inf false) (fin t' n' d') h k p q = absurd k
add_mono f (fin s m e) (fin s' m' e') (fin t n d) nan h k p q = absurd k
add_mono f (fin s m e) (fin s' m' e') (fin t n d) (inf true) h k p q = absurd k
add_mono f (fin s m e) (fin s' m' e') (fin t n d) (inf false) h k p q = high_sum (add f (fin s m e) (fin t n d)) (add f (fin s' m' e') (inf false)) p (infinite_r f false (fin s' m' e') q)
add_mono f (fin s m e) (fin s' m' e') (fin t n d) (fin t' n' d') h k p q =
    finite_sums f s m e s' m' e' t n d t' n' d' (le→below (fin s m e) (fin s' m' e') tt tt h) (le→below (fin t n d) (fin t' n' d') tt tt k)

-- ---- values that are not below 0: a sign that is set is a zero's
not_negative : (s : Bool) (m : ℕ) (e : ℤ) → T (le +0 (fin s m e)) → T s → m * up e ≡ 0
unfolding le
not_negative true m e h t = sym (mul-one (m * up e)) ∙ (zeros_le (0 * 2 ^ 0 * down e) (m * up e * 1) h).1
not_negative false m e h t = absurd t

factor : (a b : ℕ) → 0 < b → a * b ≡ 0 → a ≡ 0
factor zero b B e = refl
factor (suc a) b B e = absurd (not-le_of_lt (mul-pos (zero-lt-suc a) B) (le_of_eq e))

pub no_less : (m : ℕ) (e : ℤ) → T (le +0 (fin true (suc m) e)) → ⊥
no_less m e h = not-le_of_lt (mul-pos (zero-lt-suc m) (up_pos e)) (le_of_eq (not_negative true (suc m) e h tt))

-- ---- a sum with what is not below 0
raised : (u v P M Q dx dy : ℕ) → u + (M * dy + 0) ≡ v + (P * dy + Q) → P * (dx * dy) + v * dx ≤ u * dx + M * (dx * dy)
raised u v P M Q dx dy e = let k : (u + (M * dy + 0)) * dx ≡ (v + (P * dy + Q)) * dx = ap (λ (z : ℕ). z * dx) e in omega arith

none : (t : Bool) (a d : ℕ) → (T t → a ≡ 0) → cond t (a * d) 0 ≡ 0
none true a d h = ap (λ (z : ℕ). z * d) (h tt) ∙ zero-mul d
none false a d h = refl

pub add_up : (f : Format) (x y : Float) → T (fits f x) → T (finite x) → T (le +0 y) → T (le x (add f x y))
unfolding add le narrow
add_up f nan y h p k = absurd p
add_up f (inf s) y h p k = absurd p
add_up f (fin s m e) nan h p k = absurd k
add_up f (fin s m e) (inf true) h p k = absurd k
add_up f (fin s m e) (inf false) h p k = tt
add_up f (fin s m e) (fin t n d) h p k =
    let a = m * up e * down d in
    let b = n * up d * down e in
    let c = down e * down d in
    let z = sum_exact f s a t b c in
    let q = parts s (m * up e) (down d) in
    let E : cond z.sign 0 z.w + (cond s (m * up e) 0 * down d + 0) ≡ cond z.sign z.w 0 + (cond s 0 (m * up e) * down d + cond t 0 b) = rw (q.0, q.1, none t (n * up d) (down e) (not_negative t n d k)) at z.exact in
    subst (λ (w : Float). T (le (fin s m e) w)) (sym z.is)
    (subst (λ (w : Float). T (le w (round f z.sign z.w c))) (narrow_exact f (fin s m e) h)
    (round_order f s z.sign (m * up e) (down e) z.w c (down_pos e) (mul-pos (down_pos e) (down_pos d))
    (raised (cond z.sign 0 z.w) (cond z.sign z.w 0) (cond s 0 (m * up e)) (cond s (m * up e) 0) (cond t 0 b) (down e) (down d) E)))

-- ---- a difference from what is not above
parted : (s t : Bool) (A B x y c : ℕ) → cond t 0 B * x + cond s A 0 * y ≤ cond s 0 A * y + cond t B 0 * x
    → (0 + 0) * c + (cond s (A * y) 0 + cond (not t) (B * x) 0) * 1 ≤ (cond s 0 (A * y) + cond (not t) 0 (B * x)) * 1 + (0 + 0) * c
parted true true A B x y c h = omega arith
parted true false A B x y c h = omega arith
parted false true A B x y c h = omega arith
parted false false A B x y c h = omega arith

zero_sum : (f : Format) → sum f false 0 false 0 1 ≡ +0
unfolding sum
zero_sum f = round_zero f false 1 (zero-lt-suc 0)

pub sub_from_zero : (f : Format) (x y : Float) → T (finite x) → T (finite y) → T (le y x) → T (le +0 (sub f x y))
unfolding sub add neg
sub_from_zero f nan y p q h = absurd p
sub_from_zero f (inf s) y p q h = absurd p
sub_from_zero f (fin s m e) nan p q h = absurd q
sub_from_zero f (fin s m e) (inf t) p q h = absurd q
sub_from_zero f (fin s m e) (fin t n d) p q h =
    let a = m * up e * down d in
    let b = n * up d * down e in
    let c = down e * down d in
    subst (λ (z : Float). T (le z (sum f s a (not t) b c))) (zero_sum f)
    (sum_order f false 0 false 0 1 s a (not t) b c (zero-lt-suc 0) (mul-pos (down_pos e) (down_pos d)) (parted s t (m * up e) (n * up d) (down e) (down d) c (le→below (fin t n d) (fin s m e) tt tt h)))

-- ---- products of sizes
sizes_in : (s t : Bool) (a b c d : ℕ) → (T s → a ≡ 0) → (T t → c ≡ 0) → a * d ≤ c * b → Under s a b t c d
sizes_in false false a b c d S U h = omega arith
sizes_in true false a b c d S U h = omega arith
sizes_in false true a b c d S U h = let e : c * b ≡ 0 * b = ap (λ (z : ℕ). z * b) (U tt) in omega arith
sizes_in true true a b c d S U h = let e : c * b ≡ 0 * b = ap (λ (z : ℕ). z * b) (U tt) in omega arith

sizes_out : (s t : Bool) (a b c d : ℕ) → (T s → a ≡ 0) → (T t → c ≡ 0) → Under s a b t c d → a * d ≤ c * b
sizes_out false false a b c d S U h = omega arith
sizes_out true t a b c d S U h = let e : a * d ≡ 0 * d = ap (λ (z : ℕ). z * d) (S tt) in omega arith
sizes_out false true a b c d S U h = omega arith

-- a product with its sign set is 0
no_sign : (s t : Bool) (a b : ℕ) → (T s → a ≡ 0) → (T t → b ≡ 0) → T (unlike s t) → a * b ≡ 0
no_sign true t a b S U h = ap (λ (z : ℕ). z * b) (S tt) ∙ zero-mul b
no_sign false true a b S U h = ap (λ (z : ℕ). a * z) (U tt) ∙ mul-zero a
no_sign false false a b S U h = absurd h

finite_products : (f : Format) (s : Bool) (m : ℕ) (e : ℤ) (s' : Bool) (m' : ℕ) (e' : ℤ) (t : Bool) (n : ℕ) (d : ℤ) (t' : Bool) (n' : ℕ) (d' : ℤ)
    → (T s → m * up e ≡ 0) → (T s' → m' * up e' ≡ 0) → (T t → n * up d ≡ 0) → (T t' → n' * up d' ≡ 0)
    → Below (fin s m e) (fin s' m' e') → Below (fin t n d) (fin t' n' d') → T (le (mul f (fin s m e) (fin t n d)) (mul f (fin s' m' e') (fin t' n' d')))
unfolding mul
finite_products f s m e s' m' e' t n d t' n' d' S S' U U' h k =
    round_order f (unlike s t) (unlike s' t') (m * up e * (n * up d)) (down e * down d) (m' * up e' * (n' * up d')) (down e' * down d') (mul-pos (down_pos e) (down_pos d)) (mul-pos (down_pos e') (down_pos d'))
    (sizes_in (unlike s t) (unlike s' t') (m * up e * (n * up d)) (down e * down d) (m' * up e' * (n' * up d')) (down e' * down d')
    (no_sign s t (m * up e) (n * up d) S U) (no_sign s' t' (m' * up e') (n' * up d') S' U')
    (le_trans (le_of_eq (mul-mul-mul_comm (m * up e) (n * up d) (down e') (down d')))
    (le_trans (mul-le-mul (sizes_out s s' (m * up e) (down e) (m' * up e') (down e') S S' h) (sizes_out t t' (n * up d) (down d) (n' * up d') (down d') U U' k))
    (le_of_eq (mul-mul-mul_comm (m' * up e') (down e) (n' * up d') (down d))))))

-- an infinity's product, where it is a number
some_left : (t : Bool) (n : ℕ) (d : ℤ) → T (le +0 (fin t n d)) → T (not (is_nan (cond (eqb n 0) nan (inf t)))) → cond (eqb n 0) nan (inf t) ≡ inf false
some_left t n d h = go (eqb n 0) t (eqb_zero n) h
  where
    eqb_zero : (n : ℕ) → n ≡ 0 → T (eqb n 0)
    eqb_zero n e = eq→eqb e

    go : (z t : Bool) → (n ≡ 0 → T z) → T (le +0 (fin t n d)) → T (not (is_nan (cond z nan (inf t)))) → cond z nan (inf t) ≡ inf false
    go true t o h p = absurd (unfold is_nan in p)
    go false false o h p = refl
    go false true o h p = absurd (o (factor n (up d) (up_pos d) (not_negative true n d h tt)))

high_l : (f : Format) (y : Float) → T (le +0 y) → T (not (is_nan (mul f (inf false) y))) → mul f (inf false) y ≡ inf false
unfolding mul le
high_l f nan h p = absurd h
high_l f (inf true) h p = absurd h
high_l f (inf false) h p = refl
high_l f (fin true n d) h p = some_left true n d h p
high_l f (fin false n d) h p = some_left false n d h p

high_r : (f : Format) (x : Float) → T (le +0 x) → T (not (is_nan (mul f x (inf false)))) → mul f x (inf false) ≡ inf false
unfolding mul le
high_r f nan h p = absurd h
high_r f (inf true) h p = absurd h
high_r f (inf false) h p = refl
high_r f (fin true n d) h p = some_left true n d h p
high_r f (fin false n d) h p = some_left false n d h p

pub mul_mono : (f : Format) (x x' y y' : Float) → T (le +0 x) → T (le +0 y) → T (le x x') → T (le y y') → T (not (is_nan (mul f x y))) → T (not (is_nan (mul f x' y'))) → T (le (mul f x y) (mul f x' y'))
unfolding le
mul_mono f x x' y y' X Y h k p q = go x x' y y' X Y (order.le_trans +0 x x' X h) (order.le_trans +0 y y' Y k) h k p q
  where
    go : (x x' y y' : Float) → T (le +0 x) → T (le +0 y) → T (le +0 x') → T (le +0 y') → T (le x x') → T (le y y') → T (not (is_nan (mul f x y))) → T (not (is_nan (mul f x' y'))) → T (le (mul f x y) (mul f x' y'))
    go nan x' y y' X Y X' Y' h k p q = absurd X
    go (inf true) x' y y' X Y X' Y' h k p q = absurd X
    go (inf false) nan y y' X Y X' Y' h k p q = absurd h
    go (inf false) (inf true) y y' X Y X' Y' h k p q = absurd h
    go (inf false) (inf false) y y' X Y X' Y' h k p q = high_sum (mul f (inf false) y) (mul f (inf false) y') p (high_l f y' Y' q)
    go (inf false) (fin s m e) y y' X Y X' Y' h k p q = absurd h
    go (fin s m e) nan y y' X Y X' Y' h k p q = absurd h
    go (fin s m e) (inf true) y y' X Y X' Y' h k p q = absurd h
    go (fin s m e) (inf false) y y' X Y X' Y' h k p q = high_sum (mul f (fin s m e) y) (mul f (inf false) y') p (high_l f y' Y' q)
    go (fin s m e) (fin s' m' e') nan y' X Y X' Y' h k p q = absurd Y
    go (fin s m e) (fin s' m' e') (inf true) y' X Y X' Y' h k p q = absurd Y
    go (fin s m e) (fin s' m' e') (inf false) nan X Y X' Y' h k p q = absurd k
    go (fin s m e) (fin s' m' e') (inf false) (inf true) X Y X' Y' h k p q = absurd k
    go (fin s m e) (fin s' m' e') (inf false) (inf false) X Y X' Y' h k p q = high_sum (mul f (fin s m e) (inf false)) (mul f (fin s' m' e') (inf false)) p (high_r f (fin s' m' e') X' q)
    go (fin s m e) (fin s' m' e') (inf false) (fin t' n' d') X Y X' Y' h k p q = absurd k
    go (fin s m e) (fin s' m' e') (fin t n d) nan X Y X' Y' h k p q = absurd k
    go (fin s m e) (fin s' m' e') (fin t n d) (inf true) X Y X' Y' h k p q = absurd k
    go (fin s m e) (fin s' m' e') (fin t n d) (inf false) X Y X' Y' h k p q = high_sum (mul f (fin s m e) (fin t n d)) (mul f (fin s' m' e') (inf false)) p (high_r f (fin s' m' e') X' q)
    go (fin s m e) (fin s' m' e') (fin t n d) (fin t' n' d') X Y X' Y' h k p q =
        finite_products f s m e s' m' e' t n d t' n' d' (not_negative s m e X) (not_negative s' m' e' X') (not_negative t n d Y) (not_negative t' n' d' Y')
        (le→below (fin s m e) (fin s' m' e') tt tt h) (le→below (fin t n d) (fin t' n' d') tt tt k)

-- ---- roots
rooted_not_negative : (f : Format) (n : ℕ) → T (le +0 (rooted f n))
rooted_not_negative f n = subst (λ (z : Float). T (le +0 z)) (sym (rooted_is f n)) (zero_le_round f (twice n) (2 ^ suc (low f)) (pow_pos (suc (low f))))

zero_le_zero : (s : Bool) (e : ℤ) → T (le (fin s 0 e) +0)
zero_le_zero s e = below→le (fin s 0 e) +0 tt tt (go s)
  where
    go : (s : Bool) → Below (fin s 0 e) +0
    go true = omega arith
    go false = omega arith

-- of two sizes above 0
under_root : (f : Format) (a c b d : ℕ) → 0 < c → 0 < d → a * d ≤ b * c → T (le (rooted f (a * 2 ^ low f * 2 ^ low f / c)) (rooted f (b * 2 ^ low f * 2 ^ low f / d)))
under_root f a c b d C D h = let L = 2 ^ low f in rooted_mono f (a * L * L / c) (b * L * L / d) (div_mono (a * L * L) c (b * L * L) d C D (scaled L))
  where
    moved : (x y L : ℕ) → x * L * L * y ≡ x * y * L * L
    moved x y L = mul_right_comm (x * L) L y ∙ ap (λ (z : ℕ). z * L) (mul_right_comm x L y)

    scaled : (L : ℕ) → a * L * L * d ≤ b * L * L * c
    scaled L = le_trans (le_of_eq (moved a d L)) (le_trans (mul-le-mul_right L (mul-le-mul_right L h)) (le_of_eq (sym (moved b c L))))

-- a value above 0 is at most no zero
no_zero : (m : ℕ) (e : ℤ) (b : ℕ) → b ≡ 0 → (d : ℤ) → suc m * up e * down d ≤ b → ⊥
no_zero m e b z d h = not-le_of_lt (mul-pos (mul-pos (zero-lt-suc m) (up_pos e)) (down_pos d)) (le_trans h (le_of_eq z))

pub sqrt_mono : (f : Format) (x y : Float) → T (le +0 x) → T (le x y) → T (le (sqrt f x) (sqrt f y))
unfolding sqrt le
sqrt_mono f x y X h = go x y X (order.le_trans +0 x y X h) h
  where
    go : (x y : Float) → T (le +0 x) → T (le +0 y) → T (le x y) → T (le (sqrt f x) (sqrt f y))
    go nan y X Y h = absurd X
    go (inf true) y X Y h = absurd X
    go (inf false) nan X Y h = absurd h
    go (inf false) (inf true) X Y h = absurd h
    go (inf false) (inf false) X Y h = tt
    go (inf false) (fin t n d) X Y h = absurd h
    go (fin s m e) nan X Y h = absurd Y
    go (fin s m e) (inf true) X Y h = absurd Y
    go (fin s m e) (fin true (suc n) d) X Y h = absurd (no_less n d Y)
    go (fin s zero e) (inf false) X Y h = tt
    go (fin s zero e) (fin t zero d) X Y h = h
    go (fin s zero e) (fin false (suc n) d) X Y h = order.le_trans (fin s 0 e) +0 (rooted f (suc n * up d * 2 ^ low f * 2 ^ low f / down d)) (zero_le_zero s e) (rooted_not_negative f (suc n * up d * 2 ^ low f * 2 ^ low f / down d))
    go (fin true (suc m) e) (inf false) X Y h = absurd (no_less m e X)
    go (fin true (suc m) e) (fin t zero d) X Y h = absurd (no_less m e X)
    go (fin true (suc m) e) (fin false (suc n) d) X Y h = absurd (no_less m e X)
    go (fin false (suc m) e) (inf false) X Y h =
        le_infinity (rooted f (suc m * up e * 2 ^ low f * 2 ^ low f / down e)) (le_numbers +0 (rooted f (suc m * up e * 2 ^ low f * 2 ^ low f / down e)) (rooted_not_negative f (suc m * up e * 2 ^ low f * 2 ^ low f / down e))).1
    go (fin false (suc m) e) (fin true zero d) X Y h = absurd (no_zero m e 0 refl d (le_of_eq (zeros_le (suc m * up e * down d) (0 * up d * down e) h).0))
    go (fin false (suc m) e) (fin false zero d) X Y h =
        absurd (no_zero m e (0 * up d * down e) (ap (λ (z : ℕ). z * down e) (zero-mul (up d)) ∙ zero-mul (down e)) d (plus_le (suc m * up e * down d) (0 * up d * down e) h))
    go (fin false (suc m) e) (fin false (suc n) d) X Y h = under_root f (suc m * up e) (down e) (suc n * up d) (down d) (down_pos e) (down_pos d) (plus_le (suc m * up e * down d) (suc n * up d * down e) h)
