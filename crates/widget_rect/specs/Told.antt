-- What one insertion leaves: the answer, the set, every place of the lent slice and of the set's arrays, taken and refused.
use Rattle.std.specs.Prelude.{ℕ, ◌≡◌, Bool, List, Float, length, Option, None, Some, Ok, Err, Result}
use Rattle.data.specs.Numbers.{Row, insert_row}
use Rattle.data.specs.declared.refusal.InsertRefusal.{InsertRefusal}
use Rattle.data.specs.declared.widget.WidgetRect.{WidgetRect}
use Rattle.model.specs.Widgets as M
use Rattle.widget_index.specs.declared.table.WidgetRects.{WidgetRects}
use Rattle.widget_append.specs.declared.Insertion.{Insertion}
use Rattle.widget_index.specs.Table.{view}
use Rattle.widget_append.specs.Append.{Gives, set_after, settled_by}
use Rattle.widget_insert.specs.Insert.{decide}
use Rattle.widget_rect.specs.WellFormed.{WellFormed}

-- the model's answer that an answer stands for, with the set and the slice after it
unfoldable pub told : Result Insertion InsertRefusal → M.WidgetRects → List WidgetRect → M.Inserted
told (Err why) widgets slice = M.refused why
told (Ok i) widgets slice = M.inserted (record { widgets = widgets; slice = slice; position = i.position; count = i.count })

-- 01's number and index of a refused insertion; a taken one has none
abbrev pub row_of : Result Insertion InsertRefusal → Option Row
row_of (Err why) = Some (insert_row why)
row_of (Ok i) = None

-- the same of the model's answer
abbrev pub model_row : M.Inserted → Option Row
model_row (M.refused why) = Some (insert_row why)
model_row (M.inserted i) = None

-- 01, every row of insert: "as before"
pub record Kept (h : WidgetRects) (words numbers : List ℕ) (edges : List Float) (slice : List WidgetRect)
    (r : Result Insertion InsertRefusal) (ws ns : List ℕ) (es : List Float) (zs : List WidgetRect) : Type 0 where
  -- the set, which is passed by value: a refusal answers none, so the one before stands
  pub set_kept : set_after h r ≡ h
  -- every place of its three arrays
  pub words_kept : ws ≡ words
  pub numbers_kept : ns ≡ numbers
  pub edges_kept : es ≡ edges
  -- every place of the lent slice
  pub slice_kept : zs ≡ slice

-- One insertion of w into the set h, whose layer's widgets are lent in `slice`: it answers r, and leaves these arrays and this slice.
pub record Inserts (h : WidgetRects) (words numbers : List ℕ) (edges : List Float) (slice : List WidgetRect) (w : WidgetRect) (top : Bool)
    (r : Result Insertion InsertRefusal) (ws ns : List ℕ) (es : List Float) (zs : List WidgetRect) : Type 0 where
  -- for every set, whatever its arrays hold: the index's own way
  pub own : Gives (decide h words numbers edges (length slice) w top) r ws ns es
  pub slice_after : zs ≡ settled_by r slice
  -- for every set: a refused insertion leaves all as before
  pub refused : (why : InsertRefusal) → r ≡ Err why → Kept h words numbers edges slice r ws ns es zs
  -- for a set that the operations made: the model's `insert`, and the set is such a one again
  pub model : WellFormed h words numbers edges → told r (view (set_after h r) ws ns es) zs ≡ M.insert top (view h words numbers edges) slice w
  -- 01's number and index of the answer are those of the model's
  pub row : WellFormed h words numbers edges → row_of r ≡ model_row (M.insert top (view h words numbers edges) slice w)
  pub well_formed : WellFormed h words numbers edges → WellFormed (set_after h r) ws ns es
