-- What the walk through a pass's events is given and leaves, in the model.
use Rattle.std.specs.Prelude.{ℕ, ◌≡◌, List, Float, Option}
use Rattle.model.specs.Types.{PointerEvent}
use Rattle.model.specs.Interact as Model
use Rattle.model.specs.Interact.{InteractInput}
use Rattle.widget_index.specs.declared.table.WidgetRects.{WidgetRects}
use Rattle.hit_lists.specs.declared.Hit.{Hit}
use Rattle.hit_lists.specs.Hits.{view}
use Rattle.interaction_state.specs.declared.state.Seen.{Seen}
use Rattle.interaction_state.specs.declared.state.Going.{Going}
use Rattle.interaction_state.specs.View.{interaction_of}
use Rattle.interaction_state.specs.Lookup.{lookup}

-- InteractionState's ids and what was clicked or long-touched so far
unfoldable pub going_of : Going → Model.Going
going_of g = record { interaction = interaction_of g.interaction; clicked = g.clicked; long_touched = g.long_touched }

-- what an interact is told of the input, with the pass's pointer events
unfoldable pub seen_of : Seen → List PointerEvent → Model.Seen
seen_of v events =
    record {
      escape_pressed = v.escape_pressed;
      is_long_touch = v.is_long_touch;
      pointer_events = events;
      is_decidedly_dragging = v.is_decidedly_dragging;
      could_any_button_be_click = v.could_any_button_be_click;
      any_down = v.any_down;
      has_pointer = v.has_pointer;
    }

-- An input of the model whose widgets are those of the set, whatever its rectangles, and whose hits are these.
pub record Looks (x : InteractInput) (set : WidgetRects) (words numbers : List ℕ) (click drag : Option Hit) : Type 0 where
  pub edges : List Float
  pub widgets : x.widgets ≡ lookup set words numbers edges
  pub click_hit : x.click ≡ view click
  pub drag_hit : x.drag ≡ view drag
