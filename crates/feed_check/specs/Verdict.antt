-- What `event_at` says of the words at a place, with the event's reader in the event's stead.
use Rattle.std.specs.Prelude.{ℕ, Bool, cond, List, get_or, Ok, Err, Result}
use Rattle.feed.specs.declared.found.FeedError.{FeedError}
use Rattle.data.specs.declared.event.Event.{Event}
use Rattle.feed.specs.declared.found.FeedError.TheVariants as fault
use Rattle.feed.specs.Split.{kind}
use Rattle.feed.specs.Decode.{event_at}
use Rattle.event_loop.specs.declared.lists.Reader.{Reader}
use Rattle.event_loop.specs.Lists.{reader_of}

unfoldable pub verdict_of : Reader → Result (Event × ℕ) FeedError → Result (Reader × ℕ) FeedError
verdict_of reader (Ok (e, next)) = Ok (reader, next)
verdict_of reader (Err fault.Malformed) = Err fault.Malformed
verdict_of reader (Err fault.OutsideDomain) = Err fault.OutsideDomain

unfoldable pub verdict_at : List ℕ → ℕ → Result (Reader × ℕ) FeedError
verdict_at ws at = verdict_of (reader_of (kind (get_or ws at 0))) (event_at ws at)

-- by two tests: of the first word's bits, then of the floats
unfoldable pub judged : Bool → Bool → Reader → ℕ → Result (Reader × ℕ) FeedError
judged bits floats reader next = cond bits (cond floats (Ok (reader, next)) (Err fault.OutsideDomain)) (Err fault.Malformed)
