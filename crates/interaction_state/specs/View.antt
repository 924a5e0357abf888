-- What the structs stand for in the model.
use Rattle.std.specs.Prelude.{ℕ, ◌&&◌, List, take}
use Rattle.model.specs.Pass as Pass
use Rattle.model.specs.Interact as Model
use Rattle.interaction_state.specs.Types.{Interaction, Seen, InteractionSnapshot}

-- egui's InteractionState
unfoldable pub interaction_of : Interaction → Pass.Interaction
interaction_of s =
    record {
      potential_click_id = s.potential_click_id;
      potential_drag_id = s.potential_drag_id;
      dragged = s.dragged;
    }

-- with the two buffers that the id sets were written to
unfoldable pub snapshot_of : InteractionSnapshot → List ℕ → List ℕ → Model.InteractionSnapshot
snapshot_of a hovered contains =
    record {
      clicked = a.clicked;
      long_touched = a.long_touched;
      drag_started = a.drag_started;
      dragged = a.dragged;
      drag_stopped = a.drag_stopped;
      hovered = take a.hovered hovered;
      contains_pointer = take a.contains_pointer contains;
    }

-- the model's `interaction_after`, of what the walk leaves
unfoldable pub kept_after : Seen → Model.InteractInput → Pass.Interaction → Pass.Interaction
kept_after v x s =
    record {
      potential_click_id = Model.kept_if (v.could_any_button_be_click && v.any_down && v.has_pointer) s.potential_click_id;
      potential_drag_id = Model.kept_if (v.any_down && v.has_pointer) s.potential_drag_id;
      dragged = Model.dragged_after x v.is_decidedly_dragging s;
    }
