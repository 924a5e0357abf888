-- The events of a feed by their shapes alone, whatever their floats. Of a feed that a pass takes these are its events.
use Rattle.std.specs.Prelude.{ℕ, List, map, drop, Option, None, Some}
use Rattle.feed.specs.Types.{Event, Other}
use Rattle.data.specs.declared.event.Event.{Event}
use Rattle.feed.specs.Split.{Piece, pieces, pieces_from}
use Rattle.feed.specs.Shape.{shape}
use Rattle.feed.specs.Decode.{piece_at}

-- words that are no event stand for one that no component reads
unfoldable pub event_or_other : Option Event → Event
event_or_other None = Other
event_or_other (Some e) = e

unfoldable pub shaped : List ℕ → Event
shaped ws = event_or_other (shape ws)

unfoldable pub shaped_piece : Piece → Event
shaped_piece p = shaped p.words

-- the whole feed: an event for each piece
unfoldable pub shaped_events : List ℕ → List Event
shaped_events ws = map shaped_piece (pieces ws)

-- those from word `at` on, where a piece begins
unfoldable pub shaped_after : List ℕ → ℕ → List Event
shaped_after ws at = map shaped_piece (pieces_from at 0 (drop at ws))

-- the event at word `at`
unfoldable pub shaped_at : List ℕ → ℕ → Event
shaped_at ws at = shaped (piece_at ws at)
