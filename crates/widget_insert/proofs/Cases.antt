-- The definitions of specs/Insert.antt, case by case: which tests lead to which outcome. Assumes nothing.
use Rattle.std.specs.Prelude.{None, Some, Ok}
use mathlib.Core.Path.{◌≡◌, refl, ap}
use Prim.Native.Nat.{ℕ, suc, ◌+◌, ◌-◌}
use native.Mathlib.Omega.{arith}
use mathlib.Core.Bool.{Bool, true, false}
use mathlib.Core.List.{List}
use lib.Dec.{ltb, eqb-suc-zero}
use lib.Ieee.{Float}
use borrow.Author.Tests.{eq-eqb}
use Rattle.data.specs.declared.widget.WidgetRect.{WidgetRect}
use Rattle.data.specs.declared.refusal.InsertRefusal.{InsertRefusal}
use Rattle.data.specs.declared.refusal.InsertRefusal.TheVariants.{OtherLayer, ShortSlice}
use Rattle.model.specs.Widgets.{same_layer, updated, record_refusal}
use Rattle.widget_index.specs.declared.table.WidgetRects.{WidgetRects}
use Rattle.widget_index.specs.Layout.{place_at, layer_of, position_of, count_at}
use Rattle.widget_index.specs.Table.{widgets_of, layer_at, widget_at, find}
use Rattle.widget_append.specs.declared.Insertion.{Insertion}
use Rattle.widget_append.specs.Append.{Outcome, Gives, unchanged, insert_new, with_traits, with_edges}
use Rattle.widget_insert.specs.Insert.{at_least, take_update, moved_numbers, replace, move_to_top, insert_known, insert_checked, decide_unless, decide}

module _ (h : WidgetRects) (words numbers : List ℕ) (edges : List Float) (w : WidgetRect) (s : ℕ) {ns : List ℕ} {es : List Float} {r : Insertion} where
  pub moved : (l position count : ℕ) → r ≡ take_update h (count - 1) count position count w → ns ≡ moved_numbers (widgets_of h) s l position count w numbers → es ≡ with_edges s w edges
      → Gives (move_to_top h words numbers edges w s l position count) (Ok r) words ns es
  unfolding move_to_top
  moved l position count d e f = record { decision = ap Ok d; words = refl; numbers = e; edges = f }

  pub replaced : (position count : ℕ) → r ≡ take_update h position count position (position + 1) w → ns ≡ with_traits s w numbers → es ≡ with_edges s w edges → Gives (replace h words numbers edges w s position count) (Ok r) words ns es
  unfolding replace
  replaced position count d e f = record { decision = ap Ok d; words = refl; numbers = e; edges = f }

module _ (h : WidgetRects) (words numbers : List ℕ) (edges : List Float) (lent : ℕ) (w : WidgetRect) where
  abbrev as_is : InsertRefusal → Outcome
  as_is why = unchanged why words numbers edges

  -- ---- a known widget
  module _ (s : ℕ) where
    abbrev old_layer : ℕ
    old_layer = layer_of (place_at numbers s)

    abbrev position : ℕ
    position = position_of (place_at numbers s)

    abbrev count : ℕ
    count = at_least (position + 1) (count_at numbers old_layer)

    abbrev same : Bool
    same = same_layer w.layer_id (layer_at words numbers old_layer)

    pub other_layer : (top : Bool) → same ≡ false → insert_known h words numbers edges lent w s top ≡ as_is OtherLayer
    unfolding insert_known
    other_layer top e = rw e

    pub short_known : (top : Bool) → same ≡ true → ltb lent count ≡ true → insert_known h words numbers edges lent w s top ≡ as_is ShortSlice
    unfolding insert_known
    short_known top e f = rw (e, f)

    pub moves : (top : Bool) → top ≡ true → same ≡ true → ltb lent count ≡ false
        → insert_known h words numbers edges lent w s top ≡ move_to_top h words numbers edges (updated (widget_at words numbers edges s) w) s old_layer position count
    unfolding insert_known
    moves top t e f = rw (e, f, t)

    pub replaces : (top : Bool) → top ≡ false → same ≡ true → ltb lent count ≡ false
        → insert_known h words numbers edges lent w s top ≡ replace h words numbers edges (updated (widget_at words numbers edges s) w) s position count
    unfolding insert_known
    replaces top t e f = rw (e, f, t)

  -- ---- an insertion
  module _ (top : Bool) where
    pub is_new : find h words numbers w.id ≡ 0 → insert_checked h words numbers edges lent w top ≡ insert_new h words numbers edges lent w
    unfolding insert_checked
    is_new e = rw (eq-eqb _ _ e)

    pub is_known : (s : ℕ) → find h words numbers w.id ≡ suc s → insert_checked h words numbers edges lent w top ≡ insert_known h words numbers edges lent w s top
    unfolding insert_checked
    is_known s found = let one : suc s - 1 ≡ s = omega arith in rw (found, eqb-suc-zero, one)

    pub refuses : (why : InsertRefusal) → record_refusal w ≡ Some why → decide h words numbers edges lent w top ≡ as_is why
    unfolding decide decide_unless
    refuses why e = rw e

    pub checks : record_refusal w ≡ None → decide h words numbers edges lent w top ≡ insert_checked h words numbers edges lent w top
    unfolding decide decide_unless
    checks e = rw e
