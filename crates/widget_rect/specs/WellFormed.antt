-- What holds of every widget set that the operations made: the index leads to each id, and no id and no layer stands twice.
use Rattle.std.specs.Prelude.{Float, ℕ, ◌+◌, ◌*◌, ◌<◌, ◌≤◌, ◌≡◌, List, eqb, get_or, length}
use Rattle.data.specs.Limits.{max_widgets, max_layers}
use Rattle.widget_index.specs.declared.table.WidgetRects.{WidgetRects}
use Rattle.widget_index.specs.Layout.{counts, span, id_at, link_at, place_at, layer_of, position_of, place, count_at}
use Rattle.widget_index.specs.Table.{last, layer_at, bucket, head, find_layer}

pub record Indexed (h : WidgetRects) (words numbers : List ℕ) : Type 0 where
  pub widgets_fit : h.widgets ≤ max_widgets
  pub layers_fit : h.layers ≤ max_layers
  -- a bucket's head is its last slot, and a slot's link the one before it in its bucket
  pub heads : (d : ℕ) → head h words numbers d ≡ last (λ s. eqb (bucket d) (bucket (id_at words s))) h.widgets
  pub links_lead : (s : ℕ) → s < h.widgets → link_at numbers s ≡ last (λ t. eqb (bucket (id_at words s)) (bucket (id_at words t))) s
  -- none before has the same id, or is the same layer
  pub ids_once : (s : ℕ) → s < h.widgets → last (λ t. eqb (id_at words s) (id_at words t)) s ≡ 0
  pub layers_once : (l : ℕ) → l < h.layers → find_layer words numbers (layer_at words numbers l) l ≡ 0
  -- each widget stands in a layer that is known, at a position below its count
  pub counts_fit : (l : ℕ) → l < h.layers → get_or numbers (counts + l) 0 ≤ h.widgets
  pub layers_known : (s : ℕ) → s < h.widgets → place_at numbers s < h.layers * span
  pub positions_fit : (s : ℕ) → s < h.widgets → position_of (place_at numbers s) < count_at numbers (layer_of (place_at numbers s))
  -- no two have one place, and each position below a layer's count is some widget's
  pub places_once : (s t : ℕ) → s < t → t < h.widgets → place_at numbers s ≡ place_at numbers t → ⊥
  pub places_taken : (l p : ℕ) → l < h.layers → p < count_at numbers l → (s : ℕ) × ((s < h.widgets) × (place_at numbers s ≡ place l p))

-- the same, of arrays that are as long as their types say
pub record WellFormed (h : WidgetRects) (words numbers : List ℕ) (edges : List Float) : Type 0 where
  pub words_long : length words ≡ 2080
  pub numbers_long : length numbers ≡ 5184
  pub edges_long : length edges ≡ 8192
  pub indexed : Indexed h words numbers
