-- What the table of lengths says of a first word. Assumes nothing.
use mathlib.Core.Path.{◌≡◌}
use mathlib.Core.Bool.{Bool, true, false, ◌&&◌, cond}
use mathlib.Core.List.{List, [], ◌∷◌}
use Prim.Native.Nat.{ℕ, zero, suc, ◌+◌, ◌/◌, ◌%◌, ◌≤◌}
use native.Mathlib.Omega.{arith}
use lib.Dec.{T, leb, leb→le, eqb}
use lib.Ieee.Fits.{and_l, and_r}
use lib.ListN.{get_or}
use Rattle.feed.specs.Split.{kind, lengths, following}

unfoldable pub all_le : ℕ → List ℕ → Bool
all_le n [] = true
all_le n (x ∷ xs) = leb x n && all_le n xs

pub get_d_le : (n : ℕ) (xs : List ℕ) (k : ℕ) → T (all_le n xs) → get_or xs k 0 ≤ n
unfolding all_le
get_d_le n [] k t = omega arith
get_d_le n (x ∷ xs) zero t = leb→le x n (and_l (leb x n) (all_le n xs) t)
get_d_le n (x ∷ xs) (suc k) t = get_d_le n xs k (and_r (leb x n) (all_le n xs) t)

pub length_le : (k : ℕ) → get_or lengths k 0 ≤ 6
unfolding all_le
length_le k = get_d_le 6 lengths k tt

force_le : (b : Bool) (n : ℕ) → n ≤ 1 → cond b n 0 ≤ 1
force_le true n h = h
force_le false n h = omega arith

pub following_le : (w : ℕ) → following w ≤ 7
unfolding following
following_le w = omega (arith, length_le (kind w), force_le (eqb (kind w) 9) (w / 4 % 2) (omega arith))

-- at least the table's length
pub length_least : (w k : ℕ) → kind w ≡ k → get_or lengths k 0 ≤ following w
unfolding following
length_least w k h = rw (← h) (omega arith)

-- a touch
pub touch_following : (w : ℕ) → kind w ≡ 9 → following w ≡ 6 + w / 4 % 2
unfolding following
touch_following w h = rw h
