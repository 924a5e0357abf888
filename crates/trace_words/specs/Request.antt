-- What the words of a request say (compare/FORMAT.md). A word past the end is 0.
use Rattle.std.specs.Prelude.{ℕ, ◌+◌, ◌*◌, List, Float, get_or}
use Rattle.std.specs.Float.{binary32, binary64}
use Rattle.std.specs.Float.Ieee.{of_bits}

abbrev pub word_at : List ℕ → ℕ → ℕ
word_at w i = get_or w i 0

-- "An f32 is one word (its bits)."
abbrev pub float_at : List ℕ → ℕ → Float
float_at w i = of_bits binary32 (word_at w i)

-- "An f64, an id, a device or a touch id is two words, low then high."
abbrev pub id_at : List ℕ → ℕ → ℕ → ℕ
id_at w low high = word_at w low + word_at w high * 4294967296

abbrev pub seconds_at : List ℕ → ℕ → ℕ → Float
seconds_at w low high = of_bits binary64 (id_at w low high)
