-- One insertion on the set's own arrays: what it answers, the set after it, every place of the three arrays, and what becomes of the lent slice. Here of a new widget.
use Rattle.std.specs.Prelude.{ℕ, ◌+◌, ◌-◌, ◌*◌, cond, ◌≡◌, List, [], ◌∷◌, leb, ltb, eqb, Float, set, Ok, Err, Result}
use Rattle.data.specs.Limits.{max_widgets, max_layers}
use Rattle.data.specs.declared.widget.WidgetRect.{WidgetRect}
use Rattle.data.specs.declared.refusal.InsertRefusal.{InsertRefusal}
use Rattle.data.specs.declared.refusal.InsertRefusal.TheVariants.{Full, ShortSlice}
use Rattle.model.specs.Widgets.{move_to_end}
use Rattle.widget_index.specs.declared.table.WidgetRects.{WidgetRects}
use Rattle.widget_index.specs.Layout.{stores, parents, layer_ids, links, places, traits, orders, counts, place, count_at, packed}
use Rattle.widget_index.specs.Table.{layers_of, bucket, head, find_layer}
use Rattle.widget_append.specs.declared.Insertion.{Insertion}

-- the decision, taken or refused, and the arrays after it
pub record Outcome : Type 0 where
  pub decision : Result Insertion InsertRefusal
  pub words : List ℕ
  pub numbers : List ℕ
  pub edges : List Float

-- what a function that decides gives
pub record Gives (o : Outcome) (r : Result Insertion InsertRefusal) (ws ns : List ℕ) (es : List Float) : Type 0 where
  pub decision : r ≡ o.decision
  pub words : ws ≡ o.words
  pub numbers : ns ≡ o.numbers
  pub edges : es ≡ o.edges

-- the lent slice after an insertion: `to - from` places from `from` on change
unfoldable pub settled : ℕ → ℕ → WidgetRect → List WidgetRect → List WidgetRect
settled from to w slice = cond (ltb from to) (move_to_end from to w slice) slice

-- the set after a decision: refused, it is as before
abbrev pub set_after : WidgetRects → Result Insertion InsertRefusal → WidgetRects
set_after h (Err why) = h
set_after h (Ok i) = i.«set»

-- the lent slice after a decision: refused, it is as before
abbrev pub settled_by : Result Insertion InsertRefusal → List WidgetRect → List WidgetRect
settled_by (Err why) slice = slice
settled_by (Ok i) slice = settled i.from i.to i.widget slice

-- ---- stores of one record

abbrev pub with_edges : ℕ → WidgetRect → List Float → List Float
with_edges s w edges =
    stores edges
    ((s * 8, w.rect.min.x) ∷ (s * 8 + 1, w.rect.min.y) ∷ (s * 8 + 2, w.rect.max.x) ∷ (s * 8 + 3, w.rect.max.y)
    ∷ (s * 8 + 4, w.interact_rect.min.x) ∷ (s * 8 + 5, w.interact_rect.min.y) ∷ (s * 8 + 6, w.interact_rect.max.x) ∷ (s * 8 + 7, w.interact_rect.max.y) ∷ [])

abbrev pub with_traits : ℕ → WidgetRect → List ℕ → List ℕ
with_traits s w numbers = set numbers (traits + s) (packed w.sense w.enabled w.visible)

-- ---- a new widget

-- the layer's number: a new layer comes last
unfoldable pub number_of : ℕ → ℕ → ℕ
number_of e n = cond (eqb e 0) n (e - 1)

unfoldable pub count_of : List ℕ → ℕ → ℕ
count_of numbers e = cond (eqb e 0) 0 (count_at numbers (e - 1))

unfoldable pub layers_after : ℕ → ℕ → ℕ
layers_after n l = cond (ltb l n) n (l + 1)

abbrev pub appended_words : ℕ → ℕ → WidgetRect → List ℕ → List ℕ
appended_words s l w words = stores words ((s, w.id) ∷ (parents + s, w.parent_id) ∷ (layer_ids + l, w.layer_id.id) ∷ [])

-- the slot becomes the last of its bucket, and its link is the one that was
abbrev pub appended_numbers : ℕ → ℕ → ℕ → ℕ → WidgetRect → List ℕ → List ℕ
appended_numbers s l count e w numbers =
    stores numbers
    ((links + s, e) ∷ (bucket w.id, s + 1) ∷ (places + s, place l count) ∷ (orders + l, w.layer_id.order) ∷ (counts + l, count + 1)
    ∷ (traits + s, packed w.sense w.enabled w.visible) ∷ [])

unfoldable pub append : WidgetRects → List ℕ → List ℕ → List Float → WidgetRect → ℕ → ℕ → Outcome
append h words numbers edges w l count =
    record {
      decision =
          Ok
          (record {
            position = count;
            count = count + 1;
            «set» = record { widgets = h.widgets + 1; layers = layers_after h.layers l };
            from = count;
            to = count + 1;
            widget = w;
          });
      words = appended_words h.widgets l w words;
      numbers = appended_numbers h.widgets l count (head h words numbers w.id) w numbers;
      edges = with_edges h.widgets w edges;
    }

-- a refusal, and all as before
abbrev pub unchanged : InsertRefusal → List ℕ → List ℕ → List Float → Outcome
unchanged why words numbers edges = record { decision = Err why; words = words; numbers = numbers; edges = edges }

-- 6, then 8
unfoldable pub insert_new : WidgetRects → List ℕ → List ℕ → List Float → ℕ → WidgetRect → Outcome
insert_new h words numbers edges lent w =
    let n = layers_of h in
    let e = find_layer words numbers w.layer_id n in
    let l = number_of e n in
    let count = count_of numbers e in
    cond (leb max_widgets h.widgets)
    (unchanged Full words numbers edges)
    (cond (leb max_layers l)
    (unchanged Full words numbers edges)
    (cond (ltb lent (count + 1)) (unchanged ShortSlice words numbers edges) (append h words numbers edges w l count)))
