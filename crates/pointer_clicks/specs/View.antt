-- What the structs of src/ mean beside the lent arrays: the model's records.
use Rattle.std.specs.Prelude.{ℕ, List, Float}
use Rattle.model.specs.Pointer as Pointer
use Rattle.pointer_events.specs.Events.{events}
use Rattle.pointer_clicks.specs.declared.Held.{Held}
use Rattle.pointer_clicks.specs.declared.ClickPast.{ClickPast}

abbrev pub held : List ℕ → List Float → Held → Pointer.Held
held codes positions h =
    record { down = h.down; press_origin = h.press_origin; press_start_time = h.press_start_time; pointer_events = events codes positions h.event_count }

abbrev pub past : ClickPast → Pointer.ClickPast
past p =
    record {
      has_moved_too_much_for_a_click = p.has_moved_too_much_for_a_click;
      last_click_pos = p.last_click_pos;
      last_click_time = p.last_click_time;
      last_last_click_time = p.last_last_click_time;
    }
