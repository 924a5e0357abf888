-- What is promised of the reading and writing of feeds, beside the contracts.
use Rattle.std.specs.Prelude.{◌≡◌, true, false, List, [], ◌∷◌, ◌++◌, map, ℕ, ◌+◌, ◌≤◌, ◌<◌, T, get_or, length, pos, None, Some, Ok, Err}
use Rattle.std.specs.Float.{binary32}
use Rattle.std.specs.Float.Ieee.{nan_bits, of_int}
use Rattle.data.specs.Limits.{max_events, coordinate_ok, zoom_ok, radians_ok, force_ok, event_ok}
use Rattle.data.specs.Modifiers.{no_modifiers}
use Rattle.feed.specs.Types.{Event, Button, Primary, TooManyEvents}
use Rattle.feed.specs.Split.{piece_length}
use Rattle.feed.specs.Shape.{float_of}
use Rattle.feed.specs.Types.fault as fault
use Rattle.feed.specs.Decode.{good, malformed, outside_domain, Item, decode, items, items_after, piece_at, event_at}
use Rattle.feed.specs.Encode.{encode, fields_ok}
use Rattle.feed.specs.Feed.{events_of, feed_refusal}

-- decode after encode is the identity on events of the domain
abbrev pub DecodeAfterEncode : Type 0
DecodeAfterEncode = (e : Event) → T (fields_ok e) → T (event_ok e) → decode (encode e) ≡ good e

-- every NaN pattern is outside every domain
abbrev pub NanOutside : Type 0
NanOutside =
    (w : ℕ) → T (nan_bits binary32 w) →
    (coordinate_ok (float_of w) ≡ false) × (zoom_ok (float_of w) ≡ false) × (radians_ok (float_of w) ≡ false) × (force_ok (float_of w) ≡ false)

-- from place to place: all items are those from word 0 on; past the end there are none; before it, what `event_at` reads is the first
pub record Walk : Type 0 where
  pub first : (ws : List ℕ) → items ws ≡ items_after ws 0
  pub past : (ws : List ℕ) (at : ℕ) → length ws ≤ at → items_after ws at ≡ []
  pub next : (ws : List ℕ) (at : ℕ) → at < length ws →
      items_after ws at ≡ record { index = at; what = decode (piece_at ws at) } ∷ items_after ws (at + piece_length (get_or ws at 0))

-- what `event_at` answers is the first item from `at` on, and the place after an event is further on, within the feed
pub record Steps : Type 0 where
  pub event : (ws : List ℕ) (at next : ℕ) (e : Event) → at < length ws → event_at ws at ≡ Ok (e, next) →
      (items_after ws at ≡ record { index = at; what = good e } ∷ items_after ws next) × (at < next) × (next ≤ length ws)
  pub refused_1 : (ws : List ℕ) (at : ℕ) → at < length ws → event_at ws at ≡ Err fault.Malformed →
      items_after ws at ≡ record { index = at; what = malformed } ∷ items_after ws (at + piece_length (get_or ws at 0))
  pub refused_2 : (ws : List ℕ) (at : ℕ) → at < length ws → event_at ws at ≡ Err fault.OutsideDomain →
      items_after ws at ≡ record { index = at; what = outside_domain } ∷ items_after ws (at + piece_length (get_or ws at 0))

-- what is decoded is of the domain
abbrev pub DecodedInDomain : Type 0
DecodedInDomain = (ws : List ℕ) (e : Event) → decode ws ≡ good e → T (fields_ok e) × T (event_ok e)

abbrev pub good_item : ℕ × Event → Item
good_item p = record { index = p.0; what = good p.1 }

-- "event 65": refused with 4 at its first word, whatever it holds
abbrev pub EventSixtyFive : Type 0
EventSixtyFive =
    (ws : List ℕ) (before : List (ℕ × Event)) (i : Item) (after : List Item) →
    length before ≡ max_events → items ws ≡ map good_item before ++ i ∷ after → feed_refusal ws ≡ Some (TooManyEvents i.index)

-- a feed that is not refused: at most `max_events` events, each of them good
abbrev pub Accepted : Type 0
Accepted =
    (ws : List ℕ) → feed_refusal ws ≡ None →
    (length (items ws) ≤ max_events) × (map (λ (i : Item). i.what) (items ws) ≡ map good (events_of (items ws)))

-- "A primary press at (10, 20) is hexadecimal 50000100 41200000 41A00000"
unfoldable pub primary_press : Event
primary_press = Button (record { x = of_int binary32 (pos 10); y = of_int binary32 (pos 20) }) Primary true no_modifiers

unfoldable pub primary_press_words : List ℕ
primary_press_words = 0x5000_0100 ∷ 0x4120_0000 ∷ 0x41a0_0000 ∷ []

abbrev pub PrimaryPress : Type 0
PrimaryPress = (decode primary_press_words ≡ good primary_press) × (encode primary_press ≡ primary_press_words)
