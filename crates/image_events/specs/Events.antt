-- Group 11 of an image, the pass's pointer events: its description, and an event as its value and back.
use Rattle.std.specs.Prelude.{ℕ, zero, suc, ◌≡◌, List, map, length, Float, None, Some}
use Rattle.std.proofs.lemmas.List.Edits.{sets}
use Rattle.data.specs.Numbers.{button_number}
use Rattle.data.specs.Modifiers.{modifiers_number, modifiers_of}
use Rattle.feed.specs.Shape.{button_of}
use Rattle.model.specs.Types.{Pos2, PointerEvent, Moved, Pressed, Released}
use Rattle.pointer_events.specs.Events.{events, codes_of, positions_of}
use Rattle.image.specs.Codes.{Code, word, single, both, blank, choice, table, El}
use Rattle.image_words.specs.Leaves.{any, any_id, upto}

-- the kinds: 0 moved, 1 pressed, 2 released, 3 clicked; five buttons; flags of five bits
abbrev pub kinds : ℕ
kinds = 4

abbrev pub max_button : ℕ
max_button = 4

abbrev pub max_flags : ℕ
max_flags = 31

abbrev pub pos_code : Code
pos_code = both (single any) (single any)

-- a button, a count, flags, a position
abbrev pub clicked_code : Code
clicked_code = both (word (upto max_button)) (both (word any_id) (both (word (upto max_flags)) pos_code))

-- five words by kind; what a kind does not have is 0
abbrev pub by_kind : ℕ → Code
by_kind zero = both (blank 3) pos_code
by_kind (suc zero) = both (word (upto max_button)) (both (blank 2) pos_code)
by_kind (suc (suc zero)) = both (word (upto max_button)) (blank 4)
by_kind (suc (suc (suc k))) = clicked_code

abbrev pub event_code : Code
event_code = choice kinds by_kind

-- as many as a form holds
abbrev pub events_code : ℕ → Code
events_code most = table 11 most event_code

-- an event as a value
unfoldable pub event_el : PointerEvent → El event_code
event_el (Moved v) = (0, (tt, (v.x, v.y)))
event_el (Pressed v b) = (1, (button_number b, (tt, (v.x, v.y))))
event_el (Released None b) = (2, (button_number b, tt))
event_el (Released (Some k) b) = (3, (button_number b, (k.count, (modifiers_number k.modifiers, (k.pos.x, k.pos.y)))))

-- and back
abbrev pub pos_of : El pos_code → Pos2
pos_of v = record { x = v.0; y = v.1 }

unfoldable pub event_by : (k : ℕ) → El (by_kind k) → PointerEvent
event_by zero v = Moved (pos_of v.1)
event_by (suc zero) v = Pressed (pos_of v.1.1) (button_of v.0)
event_by (suc (suc zero)) v = Released None (button_of v.0)
event_by (suc (suc (suc k))) v = Released (Some (record { pos = pos_of v.1.1.1; count = v.1.0; modifiers = modifiers_of v.1.1.0 })) (button_of v.0)

abbrev pub event_of_el : El event_code → PointerEvent
event_of_el v = event_by v.0 v.1

-- the events as a value, and back
unfoldable pub events_el : List PointerEvent → List (El event_code)
events_el es = map event_el es

unfoldable pub events_of_el : List (El event_code) → List PointerEvent
events_of_el vs = map event_of_el vs

-- what reading leaves: the events, and every lent place
pub record Stored (es : List PointerEvent) (codes : List ℕ) (positions : List Float) (r : ℕ) (codes' : List ℕ) (positions' : List Float) : Type 0 where
  pub count : r ≡ length es
  pub is : events codes' positions' r ≡ es
  -- those of the events from place 0 on, the others as before
  pub codes_after : codes' ≡ sets codes 0 (codes_of es)
  pub positions_after : positions' ≡ sets positions 0 (positions_of es)
