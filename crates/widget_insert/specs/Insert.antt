-- One insertion on the set's own arrays: of a known widget, and of any.
use Rattle.std.specs.Prelude.{ℕ, zero, suc, ◌+◌, ◌-◌, Bool, cond, List, ltb, eqb, Float, get_or, set, Option, None, Some, Ok}
use Rattle.data.specs.declared.widget.WidgetRect.{WidgetRect}
use Rattle.data.specs.declared.refusal.InsertRefusal.{InsertRefusal}
use Rattle.data.specs.declared.refusal.InsertRefusal.TheVariants.{OtherLayer, ShortSlice}
use Rattle.model.specs.Widgets.{same_layer, updated, record_refusal}
use Rattle.widget_index.specs.declared.table.WidgetRects.{WidgetRects}
use Rattle.widget_index.specs.Layout.{places, span, place_at, layer_of, position_of, place, count_at}
use Rattle.widget_index.specs.Table.{widgets_of, widget_at, find}
use Rattle.widget_append.specs.declared.Insertion.{Insertion}
use Rattle.widget_append.specs.Append.{Outcome, unchanged, with_edges, with_traits, insert_new}

-- ---- a known widget

-- "every later position falls by one": of the places after this one up to the end of its layer
unfoldable pub fallen : ℕ → ℕ → ℕ → ℕ
fallen after before p = cond (ltb after p) (cond (ltb p before) (p - 1) p) p

-- the same of the first n slots
unfoldable pub fall : ℕ → ℕ → ℕ → List ℕ → List ℕ
fall zero after before numbers = numbers
fall (suc n) after before numbers =
    let ns = fall n after before numbers in
    set ns (places + n) (fallen after before (get_or ns (places + n) 0))

-- how many widgets the layer has, which are more than the position of any of them
unfoldable pub at_least : ℕ → ℕ → ℕ
at_least low n = cond (ltb n low) low n

abbrev pub take_update : WidgetRects → ℕ → ℕ → ℕ → ℕ → WidgetRect → Insertion
take_update h position count from to w = record { position = position; count = count; «set» = h; from = from; to = to; widget = w }

unfoldable pub replace : WidgetRects → List ℕ → List ℕ → List Float → WidgetRect → ℕ → ℕ → ℕ → Outcome
replace h words numbers edges w s position count =
    record {
      decision = Ok (take_update h position count position (position + 1) w);
      words = words;
      numbers = with_traits s w numbers;
      edges = with_edges s w edges;
    }

unfoldable pub moved_numbers : ℕ → ℕ → ℕ → ℕ → ℕ → WidgetRect → List ℕ → List ℕ
moved_numbers n s l position count w numbers =
    set (fall n (place l position) (place l span) (with_traits s w numbers)) (places + s) (place l (count - 1))

unfoldable pub move_to_top : WidgetRects → List ℕ → List ℕ → List Float → WidgetRect → ℕ → ℕ → ℕ → ℕ → Outcome
move_to_top h words numbers edges w s l position count =
    record {
      decision = Ok (take_update h (count - 1) count position count w);
      words = words;
      numbers = moved_numbers (widgets_of h) s l position count w numbers;
      edges = with_edges s w edges;
    }

-- 7, then 8
unfoldable pub insert_known : WidgetRects → List ℕ → List ℕ → List Float → ℕ → WidgetRect → ℕ → Bool → Outcome
insert_known h words numbers edges lent w s top =
    let old = widget_at words numbers edges s in
    let new = updated old w in
    let l = layer_of (place_at numbers s) in
    let position = position_of (place_at numbers s) in
    let count = at_least (position + 1) (count_at numbers l) in
    cond (same_layer w.layer_id old.layer_id)
    (cond (ltb lent count)
    (unchanged ShortSlice words numbers edges)
    (cond top (move_to_top h words numbers edges new s l position count) (replace h words numbers edges new s position count)))
    (unchanged OtherLayer words numbers edges)

-- ---- an insertion

unfoldable pub insert_checked : WidgetRects → List ℕ → List ℕ → List Float → ℕ → WidgetRect → Bool → Outcome
insert_checked h words numbers edges lent w top =
    let e = find h words numbers w.id in
    cond (eqb e 0) (insert_new h words numbers edges lent w) (insert_known h words numbers edges lent w (e - 1) top)

unfoldable pub decide_unless : Option InsertRefusal → WidgetRects → List ℕ → List ℕ → List Float → ℕ → WidgetRect → Bool → Outcome
decide_unless (Some why) h words numbers edges lent w top = unchanged why words numbers edges
decide_unless None h words numbers edges lent w top = insert_checked h words numbers edges lent w top

-- with `lent` places in the slice
unfoldable pub decide : WidgetRects → List ℕ → List ℕ → List Float → ℕ → WidgetRect → Bool → Outcome
decide h words numbers edges lent w top = decide_unless (record_refusal w) h words numbers edges lent w top
