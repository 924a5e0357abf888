-- The definitions of specs/Append.antt, case by case: which tests lead to which outcome. Assumes nothing.
use Rattle.std.specs.Prelude.{Err, Result}
use mathlib.Core.Path.{◌≡◌, refl}
use Prim.Native.Nat.{ℕ, ◌+◌}
use mathlib.Core.Bool.{true, false}
use mathlib.Core.List.{List}
use lib.Dec.{leb, ltb}
use lib.Ieee.{Float}
use Rattle.data.specs.Limits.{max_widgets, max_layers}
use Rattle.data.specs.declared.widget.WidgetRect.{WidgetRect}
use Rattle.data.specs.declared.refusal.InsertRefusal.{InsertRefusal}
use Rattle.data.specs.declared.refusal.InsertRefusal.TheVariants.{Full, ShortSlice}
use Rattle.widget_index.specs.declared.table.WidgetRects.{WidgetRects}
use Rattle.widget_index.specs.Table.{layers_of, find_layer}
use Rattle.widget_append.specs.declared.Insertion.{Insertion}
use Rattle.widget_append.specs.Append.{Outcome, Gives, unchanged, number_of, count_of, append, insert_new}

pub gives : {o o' : Outcome} {r : Result Insertion InsertRefusal} {ws ns : List ℕ} {es : List Float} → o ≡ o' → Gives o' r ws ns es → Gives o r ws ns es
gives e g = rw e g

pub as_before : (why : InsertRefusal) (ws ns : List ℕ) (es : List Float) → Gives (unchanged why ws ns es) (Err why) ws ns es
as_before why ws ns es = record { decision = refl; words = refl; numbers = refl; edges = refl }

module _ (h : WidgetRects) (words numbers : List ℕ) (edges : List Float) (lent : ℕ) (w : WidgetRect) where
  abbrev layer_entry : ℕ
  layer_entry = find_layer words numbers w.layer_id (layers_of h)

  abbrev layer : ℕ
  layer = number_of layer_entry (layers_of h)

  abbrev new_count : ℕ
  new_count = count_of numbers layer_entry

  abbrev as_is : InsertRefusal → Outcome
  as_is why = unchanged why words numbers edges

  pub full : leb max_widgets h.widgets ≡ true → insert_new h words numbers edges lent w ≡ as_is Full
  unfolding insert_new
  full e = rw e

  pub full_layers : leb max_widgets h.widgets ≡ false → leb max_layers layer ≡ true → insert_new h words numbers edges lent w ≡ as_is Full
  unfolding insert_new
  full_layers e f = rw (e, f)

  pub short_new : leb max_widgets h.widgets ≡ false → leb max_layers layer ≡ false → ltb lent (new_count + 1) ≡ true → insert_new h words numbers edges lent w ≡ as_is ShortSlice
  unfolding insert_new
  short_new e f g = rw (e, f, g)

  pub appends : leb max_widgets h.widgets ≡ false → leb max_layers layer ≡ false → ltb lent (new_count + 1) ≡ false → insert_new h words numbers edges lent w ≡ append h words numbers edges w layer new_count
  unfolding insert_new
  appends e f g = rw (e, f, g)
