-- What the program counts: the pairs whose stored result is not what IEEE's definitions say of the operand. As patterns, one for every NaN.
use Rattle.std.specs.Prelude.{ℕ, zero, suc, ◌+◌, ◌*◌, ◌%◌, ◌^◌, Bool, not, cond, List, ◌==◌, from_bits, slice_index, to_bits}
use Rattle.std.specs.Float.{binary32, binary64}
use Rattle.ieee_narrow.specs.Narrow.{narrow}
use Rattle.ieee_sqrt.specs.Sqrt.{sqrt}
use Rattle.ieee_vectors.specs.declared.pairs.Kind.{Kind}
use Rattle.ieee_vectors.specs.declared.pairs.Kind.TheVariants.{Narrow, Sqrt32, Sqrt64}

-- the little-endian word of 64 bits at a place
abbrev pub word : List ℕ → ℕ → ℕ
word s i =
    slice_index s i + slice_index s (i + 1) * 2 ^ 8 + slice_index s (i + 2) * 2 ^ 16 + slice_index s (i + 3) * 2 ^ 24
    + (slice_index s (i + 4) + slice_index s (i + 5) * 2 ^ 8 + slice_index s (i + 6) * 2 ^ 16 + slice_index s (i + 7) * 2 ^ 24) * 2 ^ 32

abbrev pub answer : Kind → ℕ → ℕ
answer Narrow x = to_bits binary32 (narrow binary32 (from_bits binary64 x))
answer Sqrt32 x = to_bits binary32 (sqrt binary32 (from_bits binary32 (x % 2 ^ 32)))
answer Sqrt64 x = to_bits binary64 (sqrt binary64 (from_bits binary64 x))

abbrev pub stored : Kind → ℕ → ℕ
stored Narrow y = to_bits binary32 (from_bits binary32 (y % 2 ^ 32))
stored Sqrt32 y = to_bits binary32 (from_bits binary32 (y % 2 ^ 32))
stored Sqrt64 y = to_bits binary64 (from_bits binary64 y)

-- the pair at a place differs
abbrev pub is_different : Kind → List ℕ → ℕ → Bool
is_different k s i = not (answer k (word s i) == stored k (word s (i + 8)))

-- how many do of the first n pairs
unfoldable pub differing : Kind → List ℕ → ℕ → ℕ
differing k s zero = 0
differing k s (suc n) = differing k s n + cond (is_different k s (n * 16)) 1 0
