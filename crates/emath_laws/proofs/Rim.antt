-- On which side of a distance a length lies, by squares in f64: within where its square is at most the distance's, beyond where it is at least that of a value beyond. Assumes nothing.
use mathlib.Core.Path.{◌≡◌, refl, sym, ap, ◌∙◌, subst}
use Prim.Native.Nat.{ℕ, zero, suc, ◌*◌, ◌<◌}
use native.Mathlib.Nat.{zero-lt-suc, zero-mul}
use native.Mathlib.Omega.{arith}
use mathlib.Core.Bool.{Bool, true, false}
use lib.IntN.{ℤ}
use lib.Dec.{T, lt→ltb, ltb→lt}
use lib.Ieee.{Float, nan, inf, fin, Format, binary32, binary64, add, mul, le, lt, is_nan, fits, up, down}
use lib.Ieee.Positive.{positive}
use Rattle.ieee_narrow.specs.Narrow.{narrow}
use Rattle.ieee_sqrt.specs.Sqrt.{sqrt}
use Rattle.emath.specs.declared.vec2.Vec2.{Vec2}
use Rattle.emath.specs.Vec.{length_sq64, length}
use Rattle.ieee_laws.proofs.Order.{le_numbers, le_refl, le_trans, le_not_lt, lt_le, lt_le_trans}
use Rattle.ieee_laws.proofs.Exact.{narrow_exact}
use Rattle.ieee_laws.proofs.Monotone.{+0, no_less, sqrt_mono, narrow_mono}
use Rattle.ieee_laws.proofs.Squares.{sqrt_of_square}
use Rattle.emath_laws.proofs.Sizes.{Number, square_not_below, squares_not_below}
use Rattle.emath_laws.proofs.Lengths.{zero_square}

-- the length of a vector whose square is s
abbrev pub root : Float → Float
root s = narrow binary32 (sqrt binary64 s)

pub root_mono : (s t : Float) → T (le +0 s) → T (le s t) → T (le (root s) (root t))
root_mono s t p h = narrow_mono binary32 (sqrt binary64 s) (sqrt binary64 t) (sqrt_mono binary64 s t p h)

is_false : (b : Bool) → (T b → ⊥) → b ≡ false
is_false true h = absurd (h tt)
is_false false h = refl

is_true : (b : Bool) → T b → b ≡ true
is_true true h = refl
is_true false h = absurd h

-- ---- the root of a value's own square
own_positive : (d : Float) → T (fits binary32 d) → T (positive d) → root (mul binary64 d d) ≡ d
own_positive d h p = ap (narrow binary32) (sqrt_of_square d h p) ∙ narrow_exact binary32 d h

own_root : (d : Float) → T (fits binary32 d) → T (lt +0 d) → root (mul binary64 d d) ≡ d
unfolding lt
own_root nan h p = absurd p
own_root (inf true) h p = absurd p
own_root (inf false) h p = unfold narrow sqrt mul in refl
own_root (fin true m e) h p = absurd p
own_root (fin false zero e) h p = absurd (none (down e) (ltb→lt (0 * 1 * down e) (0 * up e * 1) p))
  where
    none : (D : ℕ) → 0 * 1 * D < 0 * up e * 1 → ⊥
    none D k = let z : 0 * up e ≡ 0 = zero-mul (up e) in omega arith
own_root (fin false (suc m) e) h p = own_positive (fin false (suc m) e) h (lt→ltb 0 (suc m) (zero-lt-suc m))

-- it is not above the value
own_at_most : (d : Float) → T (fits binary32 d) → T (le +0 d) → T (le (root (mul binary64 d d)) d)
own_at_most d h p = go d h p
  where
    zero_root : (s : Bool) (e : ℤ) → root (mul binary64 (fin s 0 e) (fin s 0 e)) ≡ +0
    zero_root s e = ap root (zero_square binary64 s e) ∙ unfold narrow sqrt in refl

    go : (d : Float) → T (fits binary32 d) → T (le +0 d) → T (le (root (mul binary64 d d)) d)
    go nan h p = absurd (unfold le in p)
    go (inf true) h p = absurd (unfold le in p)
    go (inf false) h p = unfold narrow sqrt mul le in tt
    go (fin s zero e) h p = subst (λ (z : Float). T (le z (fin s 0 e))) (sym (zero_root s e)) p
    go (fin true (suc m) e) h p = absurd (no_less m e p)
    go (fin false (suc m) e) h p = subst (λ (z : Float). T (le z (fin false (suc m) e))) (sym (own_positive (fin false (suc m) e) h (lt→ltb 0 (suc m) (zero-lt-suc m)))) (le_refl (fin false (suc m) e) tt)

root_within : (d s : Float) → T (fits binary32 d) → T (le +0 d) → T (le +0 s) → T (le s (mul binary64 d d)) → lt d (root s) ≡ false
root_within d s h p q k =
    is_false (lt d (root s))
    (le_not_lt (root s) d (le_trans (root s) (root (mul binary64 d d)) d (root_mono s (mul binary64 d d) q k) (own_at_most d h p)))

root_beyond : (d e s : Float) → T (fits binary32 e) → T (lt +0 e) → T (lt d e) → T (le (mul binary64 e e) s) → lt d (root s) ≡ true
root_beyond d e s h p q k =
    is_true (lt d (root s))
    (lt_le_trans d e (root s) q (subst (λ (z : Float). T (le z (root s))) (own_root e h p) (root_mono (mul binary64 e e) s (square_not_below binary64 e (le_numbers +0 e (lt_le +0 e p)).1) k)))

-- ---- a sum of squares that is at most something is that of two numbers
no_sum : (f : Format) (z b : Float) → T (le (add f z nan) b) → ⊥
unfolding add le
no_sum f nan b h = h
no_sum f (inf s) b h = h
no_sum f (fin s m e) b h = h

squares_parts : (x y b : Float) → T (le (add binary64 (mul binary64 x x) (mul binary64 y y)) b) → Number x × Number y
unfolding is_nan
squares_parts nan y b h = absurd (unfold add mul le in h)
squares_parts (inf s) nan b h = absurd (no_sum binary64 (mul binary64 (inf s) (inf s)) b (unfold mul in h))
squares_parts (fin s m e) nan b h = absurd (no_sum binary64 (mul binary64 (fin s m e) (fin s m e)) b (unfold mul in h))
squares_parts (inf s) (inf t) b h = (tt, tt)
squares_parts (inf s) (fin t n d) b h = (tt, tt)
squares_parts (fin s m e) (inf t) b h = (tt, tt)
squares_parts (fin s m e) (fin t n d) b h = (tt, tt)

pub length_sq64_not_below : (v : Vec2) (b : Float) → T (le (length_sq64 v) b) → T (le +0 (length_sq64 v))
unfolding length_sq64
length_sq64_not_below v b h = let n = squares_parts v.x v.y b h in squares_not_below binary64 v.x v.y n.0 n.1

-- ---- the two laws, of vectors
pub inside : (d : Float) (v : Vec2) → T (fits binary32 d) → T (le +0 d) → T (le (length_sq64 v) (mul binary64 d d)) → lt d (length v) ≡ false
unfolding length
inside d v h p k = root_within d (length_sq64 v) h p (length_sq64_not_below v (mul binary64 d d) k) k

pub outside : (d e : Float) (v : Vec2) → T (fits binary32 e) → T (lt +0 e) → T (lt d e) → T (le (mul binary64 e e) (length_sq64 v)) → lt d (length v) ≡ true
unfolding length
outside d e v h p q k = root_beyond d e (length_sq64 v) h p q k
