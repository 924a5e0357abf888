-- What each question answers: for every set by the index's own way, and for a well-formed one what the model answers.
use Rattle.std.specs.Prelude.{ℕ, zero, suc, ◌≡◌, Bool, not, cond, List, eqb, ltb, Float, length, Option, None, Some}
use Rattle.data.specs.declared.layers.LayerId.{LayerId}
use Rattle.data.specs.declared.widget.WidgetRect.{WidgetRect}
use Rattle.model.specs.Widgets as M
use Rattle.widget_index.specs.declared.table.WidgetRects.{WidgetRects}
use Rattle.widget_index.specs.Table.{firsts, layers_of, layer_at, known_at, view, find, find_layer}
use Rattle.widget_append.specs.Append.{count_of}
use Rattle.widget_rect.specs.WellFormed.{WellFormed}

-- the value of an entry
abbrev pub at_entry : {A : Type 0} → (ℕ → A) → ℕ → Option A
at_entry f zero = None
at_entry f (suc k) = Some (f k)

-- 01: "A widget set starts empty and can be emptied", whatever its arrays hold
pub record Empty (r : WidgetRects) : Type 0 where
  pub model : (words numbers : List ℕ) (edges : List Float) → view r words numbers edges ≡ M.no_widgets
  pub well_formed : (words numbers : List ℕ) (edges : List Float) → length words ≡ 2080 → length numbers ≡ 5184 → length edges ≡ 8192 → WellFormed r words numbers edges

pub record Contains (h : WidgetRects) (words numbers : List ℕ) (d : ℕ) (r : Bool) : Type 0 where
  pub own : r ≡ not (eqb (find h words numbers d) 0)
  pub model : (edges : List Float) → WellFormed h words numbers edges → r ≡ M.contains d (view h words numbers edges)

pub record Gets (h : WidgetRects) (words numbers : List ℕ) (edges : List Float) (d : ℕ) (r : Option WidgetRect) : Type 0 where
  pub own : r ≡ M.widget_of (at_entry (known_at words numbers edges) (find h words numbers d))
  pub model : WellFormed h words numbers edges → r ≡ M.get d (view h words numbers edges)

pub record Orders (h : WidgetRects) (words numbers : List ℕ) (edges : List Float) (d : ℕ) (r : Option (LayerId × ℕ)) : Type 0 where
  pub own : r ≡ M.order_of (at_entry (known_at words numbers edges) (find h words numbers d))
  pub model : WellFormed h words numbers edges → r ≡ M.order d (view h words numbers edges)

pub record Counts (h : WidgetRects) (words numbers : List ℕ) (l : LayerId) (r : ℕ) : Type 0 where
  pub own : r ≡ count_of numbers (find_layer words numbers l (layers_of h))
  pub model : (edges : List Float) → WellFormed h words numbers edges → r ≡ M.layer_count l (view h words numbers edges)

-- `layer_ids` are the first layers, and this is the one at i
pub record Layers (h : WidgetRects) (words numbers : List ℕ) (i : ℕ) (r : Option LayerId) : Type 0 where
  pub own : r ≡ cond (ltb i (layers_of h)) (Some (layer_at words numbers i)) None
  pub model : (edges : List Float) → M.layer_ids (view h words numbers edges) ≡ firsts (layers_of h) (layer_at words numbers)
