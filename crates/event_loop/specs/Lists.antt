-- The lists that reading a feed makes: the places of each component's events, so that its loop goes along its own events alone.
use Rattle.std.specs.Prelude.{◌≡◌, Bool, cond, List, [], ◌∷◌, map, take, ℕ, ◌<◌, eqb, get_or}
use Rattle.data.specs.Numbers.{kind_number}
use Rattle.feed.specs.Types.{Event}
use Rattle.event_loop.specs.declared.lists.Reader.{Reader}
use Rattle.event_loop.specs.declared.lists.Reader.TheVariants.{Nobody, Pointer, Keys, Sums, Touches, Wheel}
use Rattle.event_loop.specs.declared.lists.Lists.{Lists}
use Rattle.event_loop.specs.Count.{list_count}
use Rattle.event_loop.specs.Shaped.{shaped_at, shaped_events}

-- the components' lists; list 0 is of the events that none reads
abbrev pub pointer_list : ℕ
pointer_list = 1

abbrev pub keys_list : ℕ
keys_list = 2

abbrev pub sums_list : ℕ
sums_list = 3

abbrev pub touch_list : ℕ
touch_list = 4

abbrev pub wheel_list : ℕ
wheel_list = 5

-- the number of a reader's list
abbrev pub number : Reader → ℕ
number Nobody = 0
number Pointer = pointer_list
number Keys = keys_list
number Sums = sums_list
number Touches = touch_list
number Wheel = wheel_list

-- who reads each kind
abbrev pub readers : List Reader
readers = Nobody ∷ Keys ∷ Keys ∷ Pointer ∷ Pointer ∷ Pointer ∷ Pointer ∷ Sums ∷ Sums ∷ Touches ∷ Wheel ∷ Keys ∷ Nobody ∷ Nobody ∷ Nobody ∷ Nobody ∷ []

abbrev pub reader_of : ℕ → Reader
reader_of kind = get_or readers kind Nobody

-- the list of each kind
abbrev pub list_of : ℕ → ℕ
list_of kind = number (reader_of kind)

-- the places in list l
unfoldable pub listed : Lists → ℕ → List ℕ
listed s l = take (get_or s.counts l 0) (get_or s.places l [])

-- the events at some places
unfoldable pub listed_events : List ℕ → List ℕ → List Event
listed_events ws ps = map (shaped_at ws) ps

-- is the event of a kind of list l?
abbrev pub reads : ℕ → Event → Bool
reads l e = eqb (list_of (kind_number e)) l

-- those of some events that are
unfoldable pub own : ℕ → List Event → List Event
own l [] = []
own l (e ∷ es) = cond (reads l e) (e ∷ own l es) (own l es)

-- the lists hold each component's events
abbrev pub Listed : List ℕ → Lists → Type 0
Listed ws s = (l : ℕ) → l < list_count → listed_events ws (listed s l) ≡ own l (shaped_events ws)
