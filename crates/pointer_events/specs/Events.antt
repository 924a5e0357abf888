-- The pass's pointer events as the lent arrays hold them: event i has its four numbers in `codes` from place 4 i on, and its position in `positions`
-- from place 2 i on. Any numbers there mean some event.
use Rattle.std.specs.Prelude.{ℕ, zero, suc, ◌+◌, ◌*◌, min, ◌≡◌, Bool, cond, List, [], ◌∷◌, ◌++◌, eqb, ltb, get_or, set, take, Float, Option, None, Some}
use Rattle.emath.specs.Vec.{pos_zero}
use Rattle.emath_history.specs.Ring.{position_at, set_position}
use Rattle.data.specs.Limits.{max_events}
use Rattle.data.specs.Numbers.{button_number}
use Rattle.data.specs.Modifiers.{modifiers_number, modifiers_of}
use Rattle.feed.specs.Shape.{button_of}
use Rattle.model.specs.Types.{Click, PointerEvent, Moved, Pressed, Released}
use Rattle.pointer_events.specs.Types.{Entry, PointerEvent, EventKind}
use Rattle.pointer_events.specs.Types.kind as kind

unfoldable pub click_of : Entry → Click
click_of x = record { pos = x.pos; count = x.count; modifiers = modifiers_of x.flags }

-- kinds: 0 moved, 1 pressed, 2 released, 3 and above released with a click; a button over 4 is Extra2
unfoldable pub event_of : Entry → PointerEvent
event_of x =
    cond (eqb x.kind 0) (Moved x.pos)
    (cond (eqb x.kind 1) (Pressed x.pos (button_of x.button))
    (cond (eqb x.kind 2) (Released None (button_of x.button)) (Released (Some (click_of x)) (button_of x.button))))

unfoldable pub entry_of : PointerEvent → Entry
entry_of (Moved v) = record { kind = 0; button = 0; count = 0; flags = 0; pos = v }
entry_of (Pressed v b) = record { kind = 1; button = button_number b; count = 0; flags = 0; pos = v }
entry_of (Released None b) = record { kind = 2; button = button_number b; count = 0; flags = 0; pos = pos_zero }
entry_of (Released (Some k) b) = record { kind = 3; button = button_number b; count = k.count; flags = modifiers_number k.modifiers; pos = k.pos }

unfoldable pub entry_at : List ℕ → List Float → ℕ → Entry
entry_at codes positions i =
    record {
      kind = get_or codes (i * 4) 0;
      button = get_or codes (i * 4 + 1) 0;
      count = get_or codes (i * 4 + 2) 0;
      flags = get_or codes (i * 4 + 3) 0;
      pos = position_at positions i;
    }

-- n events from event i on
unfoldable pub events_from : List ℕ → List Float → ℕ → ℕ → List PointerEvent
events_from codes positions i zero = []
events_from codes positions i (suc n) = event_of (entry_at codes positions i) ∷ events_from codes positions (suc i) n

-- a count over `max_events` counts as that
abbrev pub counted : ℕ → ℕ
counted n = min n max_events

unfoldable pub events : List ℕ → List Float → ℕ → List PointerEvent
events codes positions n = events_from codes positions 0 (counted n)

-- event i of a list, if it has one
unfoldable pub event_or_none : List PointerEvent → ℕ → Option PointerEvent
event_or_none [] i = None
event_or_none (e ∷ es) zero = Some e
event_or_none (e ∷ es) (suc i) = event_or_none es i

-- an event without its position
unfoldable pub kind_of : PointerEvent → EventKind
kind_of (Moved v) = kind.Moved
kind_of (Pressed v b) = kind.Pressed b
kind_of (Released None b) = kind.Released None b
kind_of (Released (Some k) b) = kind.Released (Some k.count) b

-- what a test answers of an event's kind is what `f` says of the event
abbrev pub Tests : (EventKind → Bool → Type 0) → (PointerEvent → Bool) → Type 0
Tests answers f = (e : PointerEvent) (r : Bool) → answers (kind_of e) r → r ≡ f e

-- the codes with an entry's as those of event n
unfoldable pub codes_with : ℕ → Entry → List ℕ → List ℕ
codes_with n x codes = set (set (set (set codes (n * 4) x.kind) (n * 4 + 1) x.button) (n * 4 + 2) x.count) (n * 4 + 3) x.flags

-- the four numbers of each of some events, in their order
unfoldable pub codes_of : List PointerEvent → List ℕ
codes_of [] = []
codes_of (e ∷ es) = (entry_of e).kind ∷ (entry_of e).button ∷ (entry_of e).count ∷ (entry_of e).flags ∷ codes_of es

-- and the two parts of each one's position
unfoldable pub positions_of : List PointerEvent → List Float
positions_of [] = []
positions_of (e ∷ es) = (entry_of e).pos.x ∷ (entry_of e).pos.y ∷ positions_of es

-- One event more; where there are `max_events`, all stays. Only the event's own places are written.
pub record Pushed (e : PointerEvent) (n : ℕ) (codes : List ℕ) (positions : List Float) (r : ℕ) (codes' : List ℕ) (positions' : List Float) : Type 0 where
  pub result : events codes' positions' r ≡ take max_events (events codes positions n ++ (e ∷ []))
  pub count : r ≡ cond (ltb n max_events) (n + 1) n
  pub codes_after : codes' ≡ cond (ltb n max_events) (codes_with n (entry_of e) codes) codes
  pub positions_after : positions' ≡ cond (ltb n max_events) (set_position positions n (entry_of e).pos) positions
