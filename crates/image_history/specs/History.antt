-- Group 10 of an image, "history": its description, and a list of samples as its value and back.
use Rattle.std.specs.Prelude.{ℕ, ◌*◌, ◌≡◌, List, map, drop, Float}
use Rattle.emath.specs.History.{Sample, max_len}
use Rattle.image.specs.Codes.{Code, single, double, both, table, El}
use Rattle.image_words.specs.Leaves.{any}
use Rattle.emath_history.specs.declared.history.History.{History}
use Rattle.emath_history.specs.Ring.{view}

-- a time and a position, any in its one form
abbrev pub sample_code : Code
sample_code = both (double any) (both (single any) (single any))

-- a sample as a value, and back
abbrev pub sample_el : Sample → El sample_code
sample_el s = (s.time, (s.pos.x, s.pos.y))

abbrev pub sample_of : El sample_code → Sample
sample_of v = record { time = v.0; pos = record { x = v.1.0; y = v.1.1 } }

-- "at most 1,000", the oldest first
abbrev pub history_code : Code
history_code = table 10 max_len sample_code

-- the history as a value, and back
unfoldable pub history_el : List Sample → El history_code
history_el h = map sample_el h

unfoldable pub history_of : El history_code → List Sample
history_of vs = map sample_of vs

-- what reading leaves: n samples, and "Lent places past those written keep their contents"
pub record Filled (n : ℕ) (vs : El history_code) (times positions : List Float) (r : History) (times' positions' : List Float) : Type 0 where
  pub samples : view times' positions' r ≡ history_of vs
  pub times_kept : drop n times' ≡ drop n times
  pub positions_kept : drop (n * 2) positions' ≡ drop (n * 2) positions
