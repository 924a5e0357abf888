-- What is written to an id buffer. Lists of ids are the model's.
use Rattle.std.specs.Prelude.{ℕ, ◌<◌, ◌≤◌, ◌≡◌, Bool, ◌&&◌, List, ◌++◌, ltb, eqb, length, get_or, drop}

-- 01: "Id buffer places beyond the list written keep their contents": a buffer, the list's length, and the buffer after it
pub record Written (ids before : List ℕ) (count : ℕ) (after : List ℕ) : Type 0 where
  pub counted : count ≡ length ids
  pub contents : after ≡ ids ++ drop count before

-- the first place whose id is not below d
pub record Place (d : ℕ) (ids : List ℕ) (at : ℕ) : Type 0 where
  pub within : at ≤ length ids
  pub below : (k : ℕ) → k < at → get_or ids k 0 < d
  pub not_below : at < length ids → d ≤ get_or ids at 0

-- whether the id d is in the list at a place
unfoldable pub stands_at : ℕ → List ℕ → ℕ → Bool
stands_at d ids at = ltb at (length ids) && eqb (get_or ids at 0) d
