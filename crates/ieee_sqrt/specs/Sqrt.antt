-- The square root of a value of a format, correctly rounded, as IEEE 754's squareRoot. Definitions only.
-- There are no real numbers here: the root is taken of a whole number, and what it leaves out is told to `round` by one more binary digit.
use Rattle.std.specs.Prelude.{ℕ, zero, suc, ◌+◌, ◌*◌, ◌/◌, ◌^◌, true, false, cond, leb, eqb, Float}
use Rattle.std.specs.Float.{nan, inf, fin, Format}
use Rattle.std.specs.Float.Ieee.{low, up, down, size, round}

-- ---- the whole root

-- r or r + 1: the larger whose square is not above n
unfoldable pub digit : ℕ → ℕ → ℕ
digit n r = cond (leb ((r + 1) * (r + 1)) n) (r + 1) r

-- the whole root of an n below 4 ^ d, a binary digit of the root for each two of n
unfoldable pub root : ℕ → ℕ → ℕ
unfolding digit
root zero n = 0
root (suc d) n = digit n (2 * root d (n / 4))

-- the largest r with r * r ≤ n
unfoldable pub isqrt : ℕ → ℕ
unfolding root size
isqrt n = root (size n) n

-- ---- the root of a float

-- 2 * √n to a whole number: 2 * r where n is the square of r, and 2 * r + 1 where √n lies between r and r + 1
unfoldable pub twice : ℕ → ℕ
unfolding isqrt
twice n = 2 * isqrt n + cond (eqb (isqrt n * isqrt n) n) 0 1

-- √n of the format's smallest values, rounded. A root has at least two digits more than the format keeps, so near it each value of the format, and the middle of each two, is a whole number of smallest values:
-- none lies strictly between r and r + 1, and r + 1/2 rounds as any root between the two does.
unfoldable pub rooted : Format → ℕ → Float
unfolding twice round
rooted f n = round f false (twice n) (2 ^ suc (low f))

-- x is x * 2 ^ low smallest values, and √x is √(x * 2 ^ low * 2 ^ low) of them: a whole number under the root, since 2 ^ low clears x's denominator.
unfoldable pub sqrt : Format → Float → Float
unfolding rooted
sqrt f nan = nan
sqrt f (inf s) = cond s nan (inf false)
sqrt f (fin s zero e) = fin s zero e
sqrt f (fin true (suc m) e) = nan
sqrt f (fin false (suc m) e) = rooted f (suc m * up e * 2 ^ low f * 2 ^ low f / down e)
