-- A feed is split into its events' words by the table of lengths alone. Every list of words splits; the last piece may be cut short.
use Rattle.std.specs.Prelude.{ℕ, zero, suc, ◌+◌, ◌/◌, ◌%◌, cond, List, [], ◌∷◌, eqb, get_or, take}
use Rattle.data.specs.Kinds.{kind_unit, touch_kind}

-- "top 4 bits the kind", and the bits below
abbrev pub kind : ℕ → ℕ
kind w = w / kind_unit

abbrev pub low_bits : ℕ → ℕ
low_bits w = w % kind_unit

-- "The words that follow each kind come from a fixed table of sixteen lengths"
abbrev pub lengths : List ℕ
lengths = 0 ∷ 0 ∷ 0 ∷ 2 ∷ 2 ∷ 2 ∷ 0 ∷ 1 ∷ 1 ∷ 6 ∷ 2 ∷ 0 ∷ 0 ∷ 0 ∷ 0 ∷ 0 ∷ []

-- the words after an event's first word w: "touch adds one when force is present"
unfoldable pub following : ℕ → ℕ
following w = get_or lengths (kind w) 0 + cond (eqb (kind w) touch_kind) (w / 4 % 2) 0

-- the words of an event, its first word w among them
unfoldable pub piece_length : ℕ → ℕ
piece_length w = suc (following w)

pub record Piece : Type 0 where
  -- of its first word, in the feed
  pub index : ℕ
  pub words : List ℕ

-- `skip` words of the piece before are still to come
unfoldable pub pieces_from : ℕ → ℕ → List ℕ → List Piece
pieces_from index skip [] = []
pieces_from index zero (w ∷ ws) =
    record { index = index; words = take (piece_length w) (w ∷ ws) } ∷ pieces_from (suc index) (following w) ws
pieces_from index (suc skip) (w ∷ ws) = pieces_from (suc index) skip ws

unfoldable pub pieces : List ℕ → List Piece
pieces ws = pieces_from 0 0 ws
