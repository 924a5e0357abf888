-- The words of a record of 64 bytes.
use Rattle.std.specs.Prelude.{ℕ, ◌+◌, ◌*◌, List, slice_index}

-- the four bytes from place j on, the low one first
abbrev pub word_at : List ℕ → ℕ → ℕ
word_at bs j = slice_index bs j + slice_index bs (j + 1) * 0x100 + slice_index bs (j + 2) * 0x1_0000 + slice_index bs (j + 3) * 0x100_0000
