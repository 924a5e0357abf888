-- What holds of every set that the model's insertions reach from the empty one.
use Rattle.std.specs.Prelude.{ℕ, ◌<◌, ◌≤◌, ◌≡◌, Bool, false, List, length, get_or}
use Rattle.std.specs.Float.{nan}
use Rattle.data.specs.Limits.{max_widgets, max_layers}
use Rattle.data.specs.declared.widget.WidgetRect.{WidgetRect}
use Rattle.model.specs.Widgets as M
use Rattle.model.specs.Widgets.{Known, Layer}

pub data Reached : M.WidgetRects → Type 0 where
  starts : Reached M.no_widgets
  inserts : {s : M.WidgetRects} (top : Bool) (slice : List WidgetRect) (w : WidgetRect) (i : M.Insertion) → Reached s → M.insert top s slice w ≡ M.inserted i → Reached i.widgets

-- what `get_or` gives past the end of a list
abbrev pub nobody : Known
nobody =
    record {
      position = 0;
      widget =
          record {
            id = 0;
            parent_id = 0;
            layer_id = record { order = 0; id = 0 };
            rect = record { min = record { x = nan; y = nan }; max = record { x = nan; y = nan } };
            interact_rect = record { min = record { x = nan; y = nan }; max = record { x = nan; y = nan } };
            sense = 0;
            enabled = false;
            visible = false;
          };
    }

abbrev pub nowhere : Layer
nowhere = record { layer_id = record { order = 0; id = 0 }; count = 0 }

abbrev pub known : M.WidgetRects → ℕ → Known
known s k = get_or s.by_id k nobody

abbrev pub layer : M.WidgetRects → ℕ → Layer
layer s l = get_or s.by_layer l nowhere

-- at most 1,024 widgets and 32 layers; ids without repeats; the positions of a layer are 0 to count - 1, each once
pub record Orderly (s : M.WidgetRects) : Type 0 where
  pub few_widgets : length s.by_id ≤ max_widgets
  pub few_layers : length s.by_layer ≤ max_layers
  pub ids_once : (j k : ℕ) → j < k → k < length s.by_id → (known s j).widget.id ≡ (known s k).widget.id → ⊥
  pub positions_fit : (k : ℕ) → k < length s.by_id → (l : ℕ) × ((l < length s.by_layer) × ((layer s l).layer_id ≡ (known s k).widget.layer_id) × ((known s k).position < (layer s l).count))
  pub positions_once : (j k : ℕ) → j < k → k < length s.by_id → (known s j).widget.layer_id ≡ (known s k).widget.layer_id → (known s j).position ≡ (known s k).position → ⊥
  pub positions_taken : (l p : ℕ) → l < length s.by_layer → p < (layer s l).count → (k : ℕ) × ((k < length s.by_id) × ((known s k).widget.layer_id ≡ (layer s l).layer_id) × ((known s k).position ≡ p))

abbrev pub EveryReachedSetIsOrderly : Type 0
EveryReachedSetIsOrderly = (s : M.WidgetRects) → Reached s → Orderly s
