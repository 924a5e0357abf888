-- The answer to a refused call, by its row of 01's "Answers of a refused call".
use Rattle.std.specs.Prelude.{ℕ, ◌%◌, ◌≡◌, List, set, Option, None, Some}
use Rattle.data.specs.Numbers.{Row}
use Rattle.trace_words.specs.declared.reply.Reply.{Reply}
use Rattle.trace_words.specs.declared.words.Answer.{Answer}

-- an index is one word, its low 32 bits
abbrev pub index_count : Option ℕ → ℕ
index_count None = 0
index_count (Some i) = 1

-- it stands in word 0, and every other place keeps its contents
abbrev pub with_index : Option ℕ → List ℕ → List ℕ
with_index None a = a
with_index (Some i) a = set a 0 (i % 0x1_0000_0000)

-- what a call refused by this row writes
pub record Answers (row : Row) (a : Answer) (r : Reply) (b : Answer) : Type 0 where
  -- 01's number
  pub code : r.code ≡ row.number
  -- the index follows in the rows that return one
  pub words : r.words ≡ index_count row.index
  -- every place of the lent array
  pub array : b.words ≡ with_index row.index a.words
  -- and the answer has as many words as the reply says
  pub len : b.len ≡ r.words
