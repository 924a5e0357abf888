-- What the set's arrays hold: the model's widget set, and the index's own way to find an id.
use Rattle.std.specs.Prelude.{ℕ, zero, suc, ◌+◌, ◌-◌, ◌%◌, Bool, cond, List, [], ◌∷◌, ◌++◌, leb, eqb, Float, get_or}
use Rattle.emath.specs.declared.rect.Rect.{Rect}
use Rattle.data.specs.declared.layers.LayerId.{LayerId}
use Rattle.data.specs.declared.widget.WidgetRect.{WidgetRect}
use Rattle.data.specs.Limits.{max_widgets, max_layers}
use Rattle.model.specs.Widgets.{Known, Layer, WidgetRects as Set, same_layer}
use Rattle.widget_index.specs.declared.table.WidgetRects.{WidgetRects}
use Rattle.widget_index.specs.Layout.{buckets, layer_ids, orders, id_at, parent_at, head_at, link_at, place_at, layer_of, position_of, count_at, traits, sense_of, enabled_of, visible_of, edge_at}

-- f 0, f 1, .., f (n - 1)
unfoldable pub firsts {ℓ} : {A : Type ℓ} → ℕ → (ℕ → A) → List A
firsts zero f = []
firsts (suc n) f = firsts n f ++ (f n ∷ [])

-- the last of the first n numbers that has the property, as an entry
unfoldable pub last : (ℕ → Bool) → ℕ → ℕ
last p zero = 0
last p (suc n) = cond (p n) (suc n) (last p n)

-- a count that is given is clamped
unfoldable pub at_most : ℕ → ℕ → ℕ
at_most limit n = cond (leb n limit) n limit

abbrev pub widgets_of : WidgetRects → ℕ
widgets_of h = at_most max_widgets h.widgets

abbrev pub layers_of : WidgetRects → ℕ
layers_of h = at_most max_layers h.layers

-- ---- the view

abbrev pub layer_at : List ℕ → List ℕ → ℕ → LayerId
layer_at words numbers l = record { order = get_or numbers (orders + l) 0; id = get_or words (layer_ids + l) 0 }

abbrev pub rect_at : List Float → ℕ → ℕ → Rect
rect_at edges s j =
    record {
      min = record { x = edge_at edges s j; y = edge_at edges s (j + 1) };
      max = record { x = edge_at edges s (j + 2); y = edge_at edges s (j + 3) };
    }

abbrev pub trait_at : List ℕ → ℕ → ℕ
trait_at numbers s = get_or numbers (traits + s) 0

abbrev pub widget_at : List ℕ → List ℕ → List Float → ℕ → WidgetRect
widget_at words numbers edges s =
    record {
      id = id_at words s;
      parent_id = parent_at words s;
      layer_id = layer_at words numbers (layer_of (place_at numbers s));
      rect = rect_at edges s 0;
      interact_rect = rect_at edges s 4;
      sense = sense_of (trait_at numbers s);
      enabled = enabled_of (trait_at numbers s);
      visible = visible_of (trait_at numbers s);
    }

abbrev pub known_at : List ℕ → List ℕ → List Float → ℕ → Known
known_at words numbers edges s = record { position = position_of (place_at numbers s); widget = widget_at words numbers edges s }

abbrev pub layer_entry_at : List ℕ → List ℕ → ℕ → Layer
layer_entry_at words numbers l = record { layer_id = layer_at words numbers l; count = count_at numbers l }

-- the model's set that the header and the arrays hold
unfoldable pub view : WidgetRects → List ℕ → List ℕ → List Float → Set
view h words numbers edges =
    record { by_layer = firsts (layers_of h) (layer_entry_at words numbers); by_id = firsts (widgets_of h) (known_at words numbers edges) }

-- ---- the index's own way

abbrev pub bucket : ℕ → ℕ
bucket d = d % buckets

-- the last entry of the id's bucket; whatever else stands there is no entry
unfoldable pub head : WidgetRects → List ℕ → List ℕ → ℕ → ℕ
head h words numbers d =
    let e = head_at numbers (bucket d) in
    cond (eqb e 0) 0 (cond (leb e (widgets_of h)) (cond (eqb (bucket (id_at words (e - 1))) (bucket d)) e 0) 0)

-- from an entry along the links to the one that has the id; 0 if none has
unfoldable pub chain : List ℕ → List ℕ → ℕ → ℕ → ℕ → ℕ
chain words numbers d zero e = 0
chain words numbers d (suc fuel) e = cond (eqb e 0) 0 (cond (eqb d (id_at words (e - 1))) e (chain words numbers d fuel (link_at numbers (e - 1))))

unfoldable pub find : WidgetRects → List ℕ → List ℕ → ℕ → ℕ
find h words numbers d = let e = head h words numbers d in chain words numbers d e e

-- the last of the first n layers that is the given one, as an entry
unfoldable pub find_layer : List ℕ → List ℕ → LayerId → ℕ → ℕ
find_layer words numbers l n = last (λ k. same_layer l (layer_at words numbers k)) n
