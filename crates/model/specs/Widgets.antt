-- widget_rect.rs, without `infos`: the widget set, and one insertion with the layer's widgets lent in a slice. Definitions only.
-- The set knows each widget by id with its own record and position, and how many widgets each layer holds; the layers' widgets in painting order stand in the callers' slices.
use Rattle.std.specs.Prelude.{ℕ, suc, ◌+◌, ◌-◌, Bool, true, false, ◌&&◌, ◌||◌, cond, List, [], ◌∷◌, ◌++◌, map, leb, ltb, eqb, length, take, drop, set, Option, None, Some}
use Rattle.data.specs.Limits.{max_widgets, max_layers, max_order, rect_ok}
use Rattle.data.specs.Sense.{sense_ok, sense_or}
use Rattle.model.specs.Types.{LayerId, WidgetRect, InsertRefusal}
use Rattle.model.specs.Types.insertion.{Malformed, OutsideDomain, Full, OtherLayer, ShortSlice, ZeroId}
use Rattle.model.specs.Pass.{or_else}

-- an entry of `by_id`: the position in the widget's layer, and its record
pub record Known : Type 0 where
  pub position : ℕ
  pub widget : WidgetRect

-- a layer of `by_layer`: how many widgets it holds
pub record Layer : Type 0 where
  pub layer_id : LayerId
  pub count : ℕ

-- `WidgetRects`: layers and widgets in the order of their first insertion
pub record WidgetRects : Type 0 where
  pub by_layer : List Layer
  pub by_id : List Known

-- 01: "A widget set starts empty and can be emptied."
unfoldable pub no_widgets : WidgetRects
no_widgets = record { by_layer = []; by_id = [] }

unfoldable pub same_layer : LayerId → LayerId → Bool
same_layer a b = eqb a.order b.order && eqb a.id b.id

-- ---- questions

unfoldable pub find_known : ℕ → List Known → Option Known
find_known d [] = None
find_known d (k ∷ ks) = cond (eqb d k.widget.id) (Some k) (find_known d ks)

unfoldable pub widget_of : Option Known → Option WidgetRect
widget_of None = None
widget_of (Some k) = Some k.widget

-- `get`
unfoldable pub get : ℕ → WidgetRects → Option WidgetRect
get d s = widget_of (find_known d s.by_id)

unfoldable pub is_known : Option Known → Bool
is_known None = false
is_known (Some k) = true

-- `contains`
unfoldable pub contains : ℕ → WidgetRects → Bool
contains d s = is_known (find_known d s.by_id)

unfoldable pub order_of : Option Known → Option (LayerId × ℕ)
order_of None = None
order_of (Some k) = Some (k.widget.layer_id, k.position)

-- `order`: "In which layer, and in which order in that layer?"
unfoldable pub order : ℕ → WidgetRects → Option (LayerId × ℕ)
order d s = order_of (find_known d s.by_id)

unfoldable pub find_layer : LayerId → List Layer → Option Layer
find_layer l [] = None
find_layer l (y ∷ ys) = cond (same_layer l y.layer_id) (Some y) (find_layer l ys)

unfoldable pub count_of : Option Layer → ℕ
count_of None = 0
count_of (Some y) = y.count

-- how many widgets the set counts in a layer
unfoldable pub layer_count : LayerId → WidgetRects → ℕ
layer_count l s = count_of (find_layer l s.by_layer)

-- `layer_ids`
unfoldable pub layer_ids : WidgetRects → List LayerId
layer_ids s = map (λ y. y.layer_id) s.by_layer

-- ---- refusals, in 01's order: 1, 9, 2, 7, 6, 8

-- 1: "layer order over 4, a sense bit that `sense.rs` doesn't name"
unfoldable pub well_shaped : WidgetRect → Bool
well_shaped w = leb w.layer_id.order max_order && sense_ok w.sense

-- 9: "an id of 0: a widget's, its parent's, its layer's"
unfoldable pub some_id_zero : WidgetRect → Bool
some_id_zero w = eqb w.id 0 || (eqb w.parent_id 0 || eqb w.layer_id.id 0)

-- 2: a rectangle edge outside the domain
unfoldable pub edges_ok : WidgetRect → Bool
edges_ok w = rect_ok w.rect && rect_ok w.interact_rect

unfoldable pub record_refusal : WidgetRect → Option InsertRefusal
record_refusal w =
    cond (well_shaped w) (cond (some_id_zero w) (Some ZeroId) (cond (edges_ok w) None (Some OutsideDomain))) (Some Malformed)

-- 8: a lent slice shorter than the layer's widgets after the insertion
unfoldable pub slice_refusal : ℕ → ℕ → Option InsertRefusal
slice_refusal places needed = cond (ltb places needed) (Some ShortSlice) None

-- 6: "new widget at 1,024, or new layer at 32"
unfoldable pub full : WidgetRects → Option Layer → Bool
full s None = leb max_widgets (length s.by_id) || leb max_layers (length s.by_layer)
full s (Some y) = leb max_widgets (length s.by_id)

-- by whether the id is known: 7, then 8; or 6, then 8
unfoldable pub known_refusal : WidgetRects → ℕ → WidgetRect → Option Known → Option InsertRefusal
known_refusal s places w None =
    cond (full s (find_layer w.layer_id s.by_layer)) (Some Full) (slice_refusal places (layer_count w.layer_id s + 1))
known_refusal s places w (Some k) =
    cond (same_layer w.layer_id k.widget.layer_id) (slice_refusal places (layer_count w.layer_id s)) (Some OtherLayer)

unfoldable pub insert_refusal : WidgetRects → ℕ → WidgetRect → Option InsertRefusal
insert_refusal s places w = or_else (record_refusal w) (known_refusal s places w (find_known w.id s.by_id))

-- ---- an insertion that is taken

-- the set and the slice after it, the widget's position and the count of its layer
pub record Insertion : Type 0 where
  pub widgets : WidgetRects
  pub slice : List WidgetRect
  pub position : ℕ
  pub count : ℕ

-- 01: "A known id takes the new rectangles and the union of sense, enabled and visible"
unfoldable pub updated : WidgetRect → WidgetRect → WidgetRect
updated old new =
    record {
      id = old.id;
      parent_id = old.parent_id;
      layer_id = old.layer_id;
      rect = new.rect;
      interact_rect = new.interact_rect;
      sense = sense_or old.sense new.sense;
      enabled = old.enabled || new.enabled;
      visible = old.visible || new.visible;
    }

-- the layer with one widget more; a new layer comes last
unfoldable pub count_in : LayerId → List Layer → List Layer
count_in l [] = record { layer_id = l; count = 1 } ∷ []
count_in l (y ∷ ys) = cond (same_layer l y.layer_id) (record { layer_id = y.layer_id; count = y.count + 1 } ∷ ys) (y ∷ count_in l ys)

-- a new widget goes last in its layer
unfoldable pub append : WidgetRects → List WidgetRect → WidgetRect → Insertion
append s slice w =
    let n = layer_count w.layer_id s in
    record {
      widgets = record { by_layer = count_in w.layer_id s.by_layer; by_id = s.by_id ++ (record { position = n; widget = w } ∷ []) };
      slice = set slice n w;
      position = n;
      count = n + 1;
    }

-- the entry of an id with another record, and perhaps another position
unfoldable pub with_known : ℕ → Known → List Known → List Known
with_known d k [] = []
with_known d k (j ∷ js) = cond (eqb d j.widget.id) (k ∷ js) (j ∷ with_known d k js)

-- a known widget stays in its place
unfoldable pub replace : WidgetRects → List WidgetRect → Known → WidgetRect → Insertion
replace s slice k w =
    record {
      widgets = record { by_layer = s.by_layer; by_id = with_known w.id (record { position = k.position; widget = w }) s.by_id };
      slice = set slice k.position w;
      position = k.position;
      count = layer_count w.layer_id s;
    }

-- 01: "every later position falls by one", of the layer
unfoldable pub fall : LayerId → ℕ → Known → Known
fall l position k = record { position = k.position - cond (same_layer l k.widget.layer_id && ltb position k.position) 1 0; widget = k.widget }

-- the first `count` places without the one at `position`, then w, then the places beyond
unfoldable pub move_to_end : ℕ → ℕ → WidgetRect → List WidgetRect → List WidgetRect
move_to_end position count w slice = take position slice ++ (drop (suc position) (take count slice) ++ (w ∷ drop count slice))

-- 01: "moved to top, it goes last"
unfoldable pub move_to_top : WidgetRects → List WidgetRect → Known → WidgetRect → Insertion
move_to_top s slice k w =
    let n = layer_count w.layer_id s in
    record {
      widgets = record { by_layer = s.by_layer; by_id = with_known w.id (record { position = n - 1; widget = w }) (map (fall w.layer_id k.position) s.by_id) };
      slice = move_to_end k.position n w slice;
      position = n - 1;
      count = n;
    }

unfoldable pub update : Bool → WidgetRects → List WidgetRect → Known → WidgetRect → Insertion
update false s slice k w = replace s slice k w
update true s slice k w = move_to_top s slice k w

unfoldable pub insert_by : Option Known → Bool → WidgetRects → List WidgetRect → WidgetRect → Insertion
insert_by None top s slice w = append s slice w
insert_by (Some k) top s slice w = update top s slice k (updated k.widget w)

pub data Inserted : Type 0 where
  refused : InsertRefusal → Inserted
  inserted : Insertion → Inserted

unfoldable pub insert_unless : Option InsertRefusal → Bool → WidgetRects → List WidgetRect → WidgetRect → Inserted
insert_unless (Some r) top s slice w = refused r
insert_unless None top s slice w = inserted (insert_by (find_known w.id s.by_id) top s slice w)

-- `insert` with `InteractOptions { move_to_top }`, into the widget's own layer
unfoldable pub insert : Bool → WidgetRects → List WidgetRect → WidgetRect → Inserted
insert top s slice w = insert_unless (insert_refusal s (length slice) w) top s slice w
