-- What the struct of src/ means beside the lent arrays: the model's record; and an event's effect.
use Rattle.std.specs.Prelude.{ℕ, ◌*◌, ◌<◌, ◌≡◌, List, length, take, drop, Float}
use Rattle.std.proofs.lemmas.List.Edits.{sets}
use Rattle.data.specs.Limits.{max_events}
use Rattle.model.specs.Types.{InputOptions, Event, PointerEvent}
use Rattle.model.specs.Pointer.{press_event}
use Rattle.model.specs.Pointer as Pointer
use Rattle.pointer_events.specs.Events.{events, codes_of, positions_of}
use Rattle.pointer_clicks.specs.View.{held, past}
use Rattle.pointer_state.specs.declared.press.Press.{Press}

abbrev pub press : List ℕ → List Float → Press → Pointer.Press
press codes positions s = record { held = held codes positions s.held; past = past s.past }

-- the pass's events end at `max_events`
abbrev pub capped : Pointer.Press → Pointer.Press
capped s =
    record {
      held =
          record {
            down = s.held.down;
            press_origin = s.held.press_origin;
            press_start_time = s.held.press_start_time;
            pointer_events = take max_events s.held.pointer_events;
          };
      past = s.past;
    }

-- the pointer events of t's list past those of s
abbrev pub added : Pointer.Press → Pointer.Press → List PointerEvent
added s t = drop (length s.held.pointer_events) t.held.pointer_events

-- An event's effect, for every state.
pub record Stepped (o : InputOptions) (time : Float) (e : Event) (codes : List ℕ) (positions : List Float) (s : Press)
    (codes' : List ℕ) (positions' : List Float) (r : Press) : Type 0 where
  -- the model's, whose list of pointer events ends at `max_events`
  pub result : press codes' positions' r ≡ capped (press_event o time e (press codes positions s))
  -- where the list has room, as in a pass of at most `max_events` events, the model's
  pub room : length (events codes positions s.held.event_count) < max_events → press codes' positions' r ≡ press_event o time e (press codes positions s)
  -- the numbers of the event that is added stand after those of the list; every other place keeps its contents
  pub codes_after : codes'
      ≡ sets codes (s.held.event_count * 4) (codes_of (added (press codes positions s) (capped (press_event o time e (press codes positions s)))))
  -- and so its position
  pub positions_after : positions'
      ≡ sets positions (s.held.event_count * 2) (positions_of (added (press codes positions s) (capped (press_event o time e (press codes positions s)))))
