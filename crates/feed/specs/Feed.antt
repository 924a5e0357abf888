-- A feed read event by event: the events up to the first refusal, and that refusal, as far as the feed alone decides it.
use Rattle.std.specs.Prelude.{ℕ, zero, suc, List, [], ◌∷◌, Option, None, Some}
use Rattle.data.specs.Limits.{max_events}
use Rattle.feed.specs.Types.{Event, PassRefusal, Malformed, OutsideDomain, TooManyEvents}
use Rattle.feed.specs.Decode.{Decoded, good, malformed, outside_domain, Item, items}

unfoldable pub then_events : Decoded → List Event → List Event
then_events (good e) es = e ∷ es
then_events malformed es = []
then_events outside_domain es = []

-- the events before the first item that is none
unfoldable pub events_of : List Item → List Event
events_of [] = []
events_of (i ∷ is) = then_events i.what (events_of is)

unfoldable pub then_refusal : ℕ → Decoded → Option PassRefusal → Option PassRefusal
then_refusal index (good e) later = later
then_refusal index malformed later = Some (Malformed index)
then_refusal index outside_domain later = Some (OutsideDomain index)

-- "event by event 4, 1, 2": `left` events may still come
unfoldable pub first_refusal : ℕ → List Item → Option PassRefusal
first_refusal left [] = None
first_refusal zero (i ∷ is) = Some (TooManyEvents i.index)
first_refusal (suc left) (i ∷ is) = then_refusal i.index i.what (first_refusal left is)

unfoldable pub feed_refusal : List ℕ → Option PassRefusal
feed_refusal ws = first_refusal max_events (items ws)
