-- What is promised of lists of events as the words of a feed.
use Rattle.std.specs.Prelude.{ℕ, ◌≡◌, List, [], ◌∷◌, map, T, length}
use Rattle.data.specs.Limits.{event_ok}
use Rattle.feed.specs.Types.{Event}
use Rattle.feed.specs.Split.{Piece, following, pieces}
use Rattle.feed.specs.Decode.{good, Item, items}
use Rattle.feed.specs.Feed.{events_of}
use Rattle.feed.specs.Encode.{join, encode_all, fields_ok}

-- the words of one event, as many as its first word says
pub data Whole : List ℕ → Type 0 where
  whole : (w : ℕ) (ws : List ℕ) → length ws ≡ following w → Whole (w ∷ ws)

abbrev pub AllWhole : List (List ℕ) → Type 0
AllWhole [] = Unit {0}
AllWhole (ws ∷ rest) = Whole ws × AllWhole rest

-- events that a feed can say: each field and each float of the domain
abbrev pub AllOk : List Event → Type 0
AllOk [] = Unit {0}
AllOk (e ∷ es) = (T (fields_ok e) × T (event_ok e)) × AllOk es

-- whole pieces joined split into themselves
abbrev pub JoinedSplit : Type 0
JoinedSplit = (ps : List (List ℕ)) → AllWhole ps → map (λ (p : Piece). p.words) (pieces (join ps)) ≡ ps

-- each piece of encoded events of the domain is good: it decodes to its event
abbrev pub EncodedItems : Type 0
EncodedItems = (es : List Event) → AllOk es → map (λ (i : Item). i.what) (items (encode_all es)) ≡ map good es

-- encoded events of the domain are the events of the feed
abbrev pub EncodedEvents : Type 0
EncodedEvents = (es : List Event) → AllOk es → events_of (items (encode_all es)) ≡ es
