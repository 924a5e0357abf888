-- The loop of `root_digits` in src/lib.rt, the digit recurrence of the whole root: two digits of the radicand d go in at each turn, and the root gets one.
use Rattle.std.specs.Prelude.{ℕ, ◌+◌, ◌*◌, ◌/◌, ◌%◌, ◌^◌, ◌≤◌, ◌<◌, ◌≡◌}

-- the part of d taken in after i turns: the leading 2 * i of its 62 digits
abbrev pub taken : ℕ → ℕ → ℕ
taken d i = d * 4 ^ i / 2 ^ 62

-- The loop's invariant after i of n turns: the square of the root so far and the remainder add up to the part of d taken in. The remainder is carried from turn to turn, and no trial root is squared.
-- It is too small for a larger root, so that `root` is the whole root of that part. `left` is the rest of d, moved up.
pub record Recurrence (d n left rem root i : ℕ) : Type 0 where
  pub turns : i ≤ n
  pub sum : root * root + rem ≡ taken d i
  pub small : rem ≤ 2 * root
  pub digits : root < 2 ^ i
  pub rest : left ≡ d * 4 ^ i % 2 ^ 62
