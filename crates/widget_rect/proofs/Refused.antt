-- A refused insertion leaves the set, its arrays and the slice as before, whatever the arrays hold; and its row is the model's.
use Rattle.std.specs.Prelude.{Option, None, Some, Ok, Err, Result}
use mathlib.Core.Path.{◌≡◌, refl}
use Prim.Native.Nat.{ℕ, ◌+◌, ◌-◌}
use native.Mathlib.Omega.{arith}
use mathlib.Core.Bool.{Bool, true, false, cond}
use mathlib.Core.List.{List}
use lib.Dec.{eqb, leb, ltb}
use lib.Ieee.{Float}
use Rattle.data.specs.Limits.{max_widgets, max_layers}
use Rattle.data.specs.declared.widget.WidgetRect.{WidgetRect}
use Rattle.data.specs.declared.refusal.InsertRefusal.{InsertRefusal}
use Rattle.data.specs.declared.refusal.InsertRefusal.TheVariants.{Full, OtherLayer, ShortSlice}
use Rattle.model.specs.Widgets.{same_layer, updated, record_refusal}
use Rattle.model.specs.Widgets as M
use Rattle.widget_index.specs.declared.table.WidgetRects.{WidgetRects}
use Rattle.widget_index.specs.Layout.{place_at, layer_of, position_of, count_at}
use Rattle.widget_index.specs.Table.{layers_of, widget_at, find, find_layer}
use Rattle.widget_append.specs.declared.Insertion.{Insertion}
use Rattle.widget_append.specs.Append.{Outcome, unchanged, number_of, count_of, append, insert_new, settled_by}
use Rattle.widget_insert.specs.Insert.{at_least, replace, move_to_top, insert_known, insert_checked, decide_unless, decide}
use Rattle.widget_rect.specs.Told.{told, row_of, model_row, Kept}

-- the row of an answer is that of the model's answer that it stands for
pub told_row : (a : Result Insertion InsertRefusal) (widgets : M.WidgetRects) (slice : List WidgetRect) → row_of a ≡ model_row (told a widgets slice)
unfolding told
told_row (Err why) widgets slice = refl
told_row (Ok i) widgets slice = refl

module _ (h : WidgetRects) (words numbers : List ℕ) (edges : List Float) (slice : List WidgetRect) where
  -- an outcome that keeps all where it is a refusal
  pub record Keeps (o : Outcome) : Type 0 where
    pub keeps :
        (why : InsertRefusal) → o.decision ≡ Err why
        → Kept h words numbers edges slice o.decision o.words o.numbers o.edges (settled_by o.decision slice)

  refuse_keeps : (why : InsertRefusal) → Keeps (unchanged why words numbers edges)
  refuse_keeps why =
      record { keeps = λ reason e. record { set_kept = refl; words_kept = refl; numbers_kept = refl; edges_kept = refl; slice_kept = refl } }

  taken_keeps : (o : Outcome) {i : Insertion} → o.decision ≡ Ok i → Keeps o
  taken_keeps o e = record { keeps = λ why k. let z : ◌≡◌ {A = ℕ} 0 1 = cc in absurd (omega arith) }

  either : (b : Bool) (x y : Outcome) → Keeps x → Keeps y → Keeps (cond b x y)
  either true x y f g = f
  either false x y f g = g

  module _ (lent : ℕ) (w : WidgetRect) where
    abbrev as_is : InsertRefusal → Outcome
    as_is why = unchanged why words numbers edges

    new_keeps : Keeps (insert_new h words numbers edges lent w)
    unfolding insert_new append
    new_keeps =
        let n = layers_of h in
        let e = find_layer words numbers w.layer_id n in
        let l = number_of e n in
        let count = count_of numbers e in
        let new = append h words numbers edges w l count in
        let if-long = cond (ltb lent (count + 1)) (as_is ShortSlice) new in
        let if-few-layers = cond (leb max_layers l) (as_is Full) if-long in
        either (leb max_widgets h.widgets) (as_is Full) if-few-layers (refuse_keeps Full)
        (either (leb max_layers l) (as_is Full) if-long (refuse_keeps Full)
        (either (ltb lent (count + 1)) (as_is ShortSlice) new (refuse_keeps ShortSlice) (taken_keeps new refl)))

    known_keeps : (s : ℕ) (top : Bool) → Keeps (insert_known h words numbers edges lent w s top)
    unfolding insert_known move_to_top replace
    known_keeps s top =
        let old = widget_at words numbers edges s in
        let new = updated old w in
        let l = layer_of (place_at numbers s) in
        let position = position_of (place_at numbers s) in
        let count = at_least (position + 1) (count_at numbers l) in
        let moved = move_to_top h words numbers edges new s l position count in
        let replaced = replace h words numbers edges new s position count in
        let if-long = cond top moved replaced in
        let if-same-layer = cond (ltb lent count) (as_is ShortSlice) if-long in
        either (same_layer w.layer_id old.layer_id) if-same-layer (as_is OtherLayer)
        (either (ltb lent count) (as_is ShortSlice) if-long (refuse_keeps ShortSlice)
        (either top moved replaced (taken_keeps moved refl) (taken_keeps replaced refl)))
        (refuse_keeps OtherLayer)

    checked_keeps : (top : Bool) → Keeps (insert_checked h words numbers edges lent w top)
    unfolding insert_checked
    checked_keeps top =
        let e = find h words numbers w.id in
        either (eqb e 0) (insert_new h words numbers edges lent w) (insert_known h words numbers edges lent w (e - 1) top) new_keeps (known_keeps (e - 1) top)

    pub decide_keeps : (top : Bool) → Keeps (decide h words numbers edges lent w top)
    unfolding decide decide_unless
    decide_keeps top = go (record_refusal w)
      where
        go : (q : Option InsertRefusal) → Keeps (decide_unless q h words numbers edges lent w top)
        go (Some why) = refuse_keeps why
        go None = checked_keeps top
