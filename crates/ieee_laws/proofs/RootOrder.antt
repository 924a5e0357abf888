-- The whole root keeps the order, and so does the root of whole numbers of units, rounded. For every format. Assumes nothing.
use mathlib.Core.Path.{◌≡◌, refl, sym, ap, ◌∙◌, subst}
use mathlib.Core.Logic.{◌⊎◌, inl, inr}
use Prim.Native.Nat.{ℕ, suc, ◌+◌, ◌*◌, ◌^◌, ◌≤◌, ◌<◌}
use native.Mathlib.Nat.{le_trans, le_of_eq, le_antisymm, eq-or-lt_of_le, eq-zero-or-pos, mul-le-mul_right}
use native.Mathlib.Omega.{arith}
use mathlib.Core.Bool.{Bool, true, false, cond}
use lib.Dec.{T, eqb}
use lib.Pow.{pow_pos}
use lib.Ieee.{Float, Format, low, round, le}
use lib.Ieee.Fits.{eq→eqb}
use lib.Ieee.Order.{round_mono}
use Rattle.ieee_sqrt.specs.Sqrt.{isqrt, twice, rooted}
use Rattle.ieee_sqrt.proofs.Isqrt.{isqrt_is, not_above}
use Rattle.ieee_sqrt.proofs.Rooting.{rest, rest_is, twice_is, rooted_is}

isqrt_mono : (a b : ℕ) → a ≤ b → isqrt a ≤ isqrt b
isqrt_mono a b h = not_above (isqrt a) (isqrt b) b (le_trans (isqrt_is a).0 h) (isqrt_is b).1

pub rest_zero : (n : ℕ) → isqrt n * isqrt n ≡ n → rest n ≡ 0
unfolding rest
rest_zero n e = go (eqb (isqrt n * isqrt n) n) (eq→eqb e)
  where
    go : (b : Bool) → T b → ◌≡◌ {A = ℕ} (cond b 0 1) 0
    go true t = refl
    go false t = absurd t

twice_mono : (a b : ℕ) → a ≤ b → twice a ≤ twice b
twice_mono a b h = go (eq-or-lt_of_le (isqrt_mono a b h))
  where
    ea : twice a ≡ 2 * isqrt a + rest a
    ea = twice_is a

    eb : twice b ≡ 2 * isqrt b + rest b
    eb = twice_is b

    same : isqrt a ≡ isqrt b → (rest b ≡ 0) ⊎ (0 < rest b) → rest a ≤ rest b
    same e (inl z) =
        let x : isqrt b * isqrt b ≡ b = (rest_is b).1 z in
        let y : isqrt a * isqrt a ≡ a = le_antisymm (isqrt_is a).0 (le_trans h (le_of_eq (sym x ∙ ap (λ (w : ℕ). w * w) (sym e)))) in
        le_of_eq (rest_zero a y ∙ sym z)
    same e (inr p) = le_trans (rest_is a).0 p

    go : (isqrt a ≡ isqrt b) ⊎ (isqrt a < isqrt b) → twice a ≤ twice b
    go (inl e) = let r = same e (eq-zero-or-pos (rest b)) in omega (arith, ea, eb)
    go (inr l) = let r = (rest_is a).0 in omega (arith, ea, eb)

pub rooted_mono : (f : Format) (a b : ℕ) → a ≤ b → T (le (rooted f a) (rooted f b))
rooted_mono f a b h =
    subst (λ (z : Float). T (le z (rooted f b))) (sym (rooted_is f a))
    (subst (λ (z : Float). T (le (round f false (twice a) (2 ^ suc (low f))) z)) (sym (rooted_is f b))
    (round_mono f (twice a) (2 ^ suc (low f)) (twice b) (2 ^ suc (low f)) (pow_pos (suc (low f))) (pow_pos (suc (low f))) (mul-le-mul_right (2 ^ suc (low f)) (twice_mono a b h))))
