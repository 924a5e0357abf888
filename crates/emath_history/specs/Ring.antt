-- What a `History` means beside the arrays that its caller lends. The sample k, counted from the oldest, stands at place (start + k) % 1000:
-- its time in `times` there, and the two parts of its position in `positions`, at twice the place and next to it. (`get_or` wants a value for a place
-- past the end, and no place is: the arrays have 1,000 and 2,000.)
use Rattle.std.specs.Prelude.{ℕ, zero, suc, ◌+◌, ◌*◌, ◌%◌, min, ◌≡◌, cond, List, [], ◌∷◌, ltb, get_or, set, Float}
use Rattle.std.specs.Float.{nan}
use Rattle.emath_history.specs.Types.{Pos2, History}
use Rattle.emath.specs.History.{Sample, max_len, add}

abbrev pub place : ℕ → ℕ
place i = i % max_len

unfoldable pub position_at : List Float → ℕ → Pos2
position_at positions i = record { x = get_or positions (i * 2) nan; y = get_or positions (i * 2 + 1) nan }

abbrev pub set_position : List Float → ℕ → Pos2 → List Float
set_position positions i p = set (set positions (i * 2) p.x) (i * 2 + 1) p.y

unfoldable pub sample_at : List Float → List Float → ℕ → Sample
sample_at times positions i = record { time = get_or times i nan; pos = position_at positions i }

-- n samples from place i on
unfoldable pub samples : List Float → List Float → ℕ → ℕ → List Sample
samples times positions i zero = []
samples times positions i (suc n) = sample_at times positions (place i) ∷ samples times positions (suc i) n

-- a count over 1,000 counts as 1,000, so that any header means something
abbrev pub count : History → ℕ
count h = min h.len max_len

-- the samples that a header and its arrays hold
unfoldable pub view : List Float → List Float → History → List Sample
view times positions h = samples times positions h.start (count h)

-- the place that an addition writes: the first free one, or the oldest sample's
abbrev pub free : History → ℕ
free h = place (h.start + count h)

-- What an addition leaves: the samples, and in both arrays one place written while every other keeps its contents.
pub record Added (h : History) (now : Float) (p : Pos2) (times positions : List Float) (r : History) (times' positions' : List Float) : Type 0 where
  pub result : view times' positions' r ≡ add now p (view times positions h)
  pub times_after : times' ≡ set times (free h) now
  pub positions_after : positions' ≡ set_position positions (free h) p

-- What clearing leaves: no sample, and the first place stays.
pub record Cleared (h r : History) : Type 0 where
  -- whatever the lent arrays hold
  pub none_left : (times positions : List Float) → view times positions r ≡ []
  -- the next sample goes where the oldest one stood
  pub start : r.start ≡ h.start

-- what the private `grown` returns, the header with one sample more at the end: where all places are taken, the oldest sample's is used again
unfoldable pub grown : History → History
grown h = cond (ltb h.len max_len) (record { start = h.start; len = h.len + 1 }) (record { start = place (h.start + 1); len = max_len })
