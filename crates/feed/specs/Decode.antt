-- What stands in a feed: for each piece its first word's index, and the event, or the refusal that its words alone decide.
use Rattle.std.specs.Prelude.{ℕ, ◌+◌, cond, List, map, get_or, take, drop, Option, None, Some, Ok, Err, Result}
use Rattle.data.specs.Limits.{event_ok}
use Rattle.feed.specs.Types.{Event, FeedError, PassRefusal, Malformed, OutsideDomain}
use Rattle.feed.specs.Types.fault as fault
use Rattle.feed.specs.Split.{Piece, pieces, pieces_from, piece_length}
use Rattle.feed.specs.Shape.{shape}

-- refusal 1 is `malformed`, refusal 2 is `outside_domain`
pub data Decoded : Type 0 where
  good : Event → Decoded
  malformed : Decoded
  outside_domain : Decoded

-- shape first, then floats
unfoldable pub check_floats : Option Event → Decoded
check_floats None = malformed
check_floats (Some e) = cond (event_ok e) (good e) outside_domain

-- the words of one piece
unfoldable pub decode : List ℕ → Decoded
decode ws = check_floats (shape ws)

pub record Item : Type 0 where
  pub index : ℕ
  pub what : Decoded

unfoldable pub item_of : Piece → Item
item_of p = record { index = p.index; what = decode p.words }

-- the whole feed: an item for each piece
unfoldable pub items : List ℕ → List Item
items ws = map item_of (pieces ws)

-- the items of the feed from word `at` on, where a piece begins
unfoldable pub items_after : List ℕ → ℕ → List Item
items_after ws at = map item_of (pieces_from at 0 (drop at ws))

-- the words of the piece that begins at word `at`
unfoldable pub piece_at : List ℕ → ℕ → List ℕ
piece_at ws at = take (piece_length (get_or ws at 0)) (drop at ws)

-- the event at word `at`, with the place after it, or its refusal
unfoldable pub found_at : Decoded → ℕ → Result (Event × ℕ) FeedError
found_at (good e) next = Ok (e, next)
found_at malformed next = Err fault.Malformed
found_at outside_domain next = Err fault.OutsideDomain

unfoldable pub event_at : List ℕ → ℕ → Result (Event × ℕ) FeedError
event_at ws at = found_at (decode (piece_at ws at)) (at + piece_length (get_or ws at 0))

-- the refusal that an answer at word `at` is: `pass_refusal_number` has its number
unfoldable pub found_refusal : ℕ → Result (Event × ℕ) FeedError → Option PassRefusal
found_refusal at (Ok (e, next)) = None
found_refusal at (Err fault.Malformed) = Some (Malformed at)
found_refusal at (Err fault.OutsideDomain) = Some (OutsideDomain at)
