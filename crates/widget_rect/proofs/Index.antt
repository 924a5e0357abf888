-- In a well-formed set the index finds what the model finds: the slot of an id, and the number of a layer. Assumes nothing.
use Rattle.std.specs.Prelude.{Some}
use mathlib.Core.Path.{◌≡◌, refl, sym, ◌∙◌, ap}
use Prim.Native.Nat.{ℕ, zero, suc, ◌-◌, ◌<◌, ◌≤◌}
use native.Mathlib.Omega.{arith}
use mathlib.Core.Bool.{Bool, true, false, ◌&&◌, cond}
use mathlib.Core.List.{List, [], ◌∷◌}
use lib.Dec.{eqb, eqb-suc-zero}
use lib.Ieee.{Float}
use borrow.Author.Tests.{eq-eqb, eqb-true, le-leb}
use Rattle.data.specs.Limits.{max_widgets, max_layers}
use Rattle.data.specs.declared.layers.LayerId.{LayerId}
use Rattle.model.specs.Widgets.{Known, Layer, find_known, same_layer}
use Rattle.model.specs.Widgets as M
use Rattle.widget_index.specs.declared.table.WidgetRects.{WidgetRects}
use Rattle.widget_index.specs.Layout.{id_at, link_at}
use Rattle.widget_index.specs.Table.{at_most, last, firsts, widgets_of, layers_of, layer_at, known_at, layer_entry_at, view, bucket, chain, find, find_layer}
use Rattle.widget_index.proofs.Chain.{enough}
use Rattle.widget_rect.specs.Questions.{at_entry}
use Rattle.widget_rect.specs.WellFormed.{Indexed}
use Rattle.widget_rect.proofs.Lists.{last_here, last_before, last_zero, last_le, first_such, finds}

pub unclamped : (limit n : ℕ) → n ≤ limit → at_most limit n ≡ n
unfolding at_most
unclamped limit n fits = rw (le-leb n limit fits)

-- a test that is not true is false
pub not_so : (b : Bool) → (b ≡ true → ⊥) → b ≡ false
not_so true h = absurd (h refl)
not_so false h = refl

pub unlike : true ≡ false → ⊥
unlike h = let z : ◌≡◌ {A = ℕ} 0 1 = cc in omega arith

-- ---- the same layer

pub and_left : (a b : Bool) → (a && b) ≡ true → a ≡ true
and_left true b h = refl
and_left false b h = absurd (unlike (sym h))

pub and_right : (a b : Bool) → (a && b) ≡ true → b ≡ true
and_right true b h = h
and_right false b h = absurd (unlike (sym h))

layer_is : (o p i j : ℕ) → o ≡ p → i ≡ j → ◌≡◌ {A = LayerId} (record { order = o; id = i }) (record { order = p; id = j })
layer_is o p i j e f = rw (e, f)

pub same_layer_is : (a b : LayerId) → same_layer a b ≡ true → a ≡ b
unfolding same_layer
same_layer_is a b h =
    layer_is a.order b.order a.id b.id (eqb-true _ _ (and_left (eqb a.order b.order) (eqb a.id b.id) h)) (eqb-true _ _ (and_right (eqb a.order b.order) (eqb a.id b.id) h))

pub same_layer_refl : (a : LayerId) → same_layer a a ≡ true
unfolding same_layer
same_layer_refl a = rw (eq-eqb a.order a.order refl, eq-eqb a.id a.id refl)

-- ---- the model's searches are the plain ones

pub known_plain : (d : ℕ) (ks : List Known) → find_known d ks ≡ first_such (λ k. eqb d k.widget.id) ks
unfolding find_known first_such
known_plain d [] = refl
known_plain d (k ∷ ks) = ap (λ r. cond (eqb d k.widget.id) (Some k) r) (known_plain d ks)

pub layer_plain : (l : LayerId) (ys : List Layer) → M.find_layer l ys ≡ first_such (λ y. same_layer l y.layer_id) ys
unfolding M.find_layer first_such
layer_plain l [] = refl
layer_plain l (y ∷ ys) = ap (λ r. cond (same_layer l y.layer_id) (Some y) r) (layer_plain l ys)

module _ (h : WidgetRects) (words numbers : List ℕ) (wf : Indexed h words numbers) where
  -- ---- ids
  module _ (d : ℕ) where
    abbrev in_bucket : ℕ → Bool
    in_bucket s = eqb (bucket d) (bucket (id_at words s))

    abbrev has_id : ℕ → Bool
    has_id s = eqb d (id_at words s)

    id_in_bucket : (s : ℕ) → has_id s ≡ true → in_bucket s ≡ true
    id_in_bucket s e = eq-eqb (bucket d) (bucket (id_at words s)) (ap bucket (eqb-true d (id_at words s) e))

    -- from the last slot of the bucket among the first k, the links lead to the last that has the id
    walks : (k fuel : ℕ) → k ≤ h.widgets → k ≤ fuel → chain words numbers d fuel (last in_bucket k) ≡ last has_id k
    unfolding chain
    walks zero zero l m = sym (last_zero has_id)
    walks zero (suc f) l m = rw (last_zero in_bucket, last_zero has_id)
    walks (suc k) zero l m = absurd (never m)
      where
        never : suc k ≤ 0 → ⊥
        never h = omega arith
    walks (suc k) (suc f) l m = go (walks k f (omega arith) (omega arith)) (walks k (suc f) (omega arith) (omega arith)) (in_bucket k) refl (has_id k) refl
      where
        one : suc k - 1 ≡ k
        one = omega arith

        linked : in_bucket k ≡ true → link_at numbers k ≡ last in_bucket k
        linked e = wf.links_lead k (omega arith) ∙ ap (λ (b : ℕ). last (λ t. eqb b (bucket (id_at words t))) k) (sym (eqb-true (bucket d) (bucket (id_at words k)) e))

        go : chain words numbers d f (last in_bucket k) ≡ last has_id k → chain words numbers d (suc f) (last in_bucket k) ≡ last has_id k → (b : Bool) → in_bucket k ≡ b → (c : Bool) → has_id k ≡ c
            → chain words numbers d (suc f) (last in_bucket (suc k)) ≡ last has_id (suc k)
        go next same true t true e = rw (last_here in_bucket k t, last_here has_id k e, eqb-suc-zero, one, e)
        go next same true t false e = rw (last_here in_bucket k t, last_before has_id k e, eqb-suc-zero, one, e, linked t) next
        go next same false t true e = absurd (unlike (sym (id_in_bucket k e) ∙ t))
        go next same false t false e = rw (last_before in_bucket k t, last_before has_id k e) same

    pub finds_id : find h words numbers d ≡ last has_id h.widgets
    unfolding find
    finds_id = rw (wf.heads d) (enough words numbers d (last in_bucket h.widgets) h.widgets (last in_bucket h.widgets) (omega arith) (last_le in_bucket h.widgets) ∙ walks h.widgets h.widgets (omega arith) (omega arith))

    -- `find_known` of the view
    pub finds_known : (edges : List Float) → find_known d (view h words numbers edges).by_id ≡ at_entry (known_at words numbers edges) (find h words numbers d)
    unfolding view
    finds_known edges =
        known_plain d (firsts (widgets_of h) (known_at words numbers edges))
        ∙ rw (unclamped max_widgets h.widgets wf.widgets_fit, finds_id) (finds (λ k. eqb d k.widget.id) (known_at words numbers edges) h.widgets once)
      where
        once : (k : ℕ) → k < h.widgets → eqb d (id_at words k) ≡ true → last has_id k ≡ 0
        once k less e = ap (λ (i : ℕ). last (λ t. eqb i (id_at words t)) k) (eqb-true d (id_at words k) e) ∙ wf.ids_once k less

  -- ---- layers
  module _ (l : LayerId) where
    abbrev is_layer : ℕ → Bool
    is_layer k = same_layer l (layer_at words numbers k)

    pub layer_once : (k : ℕ) → k < h.layers → is_layer k ≡ true → last is_layer k ≡ 0
    unfolding find_layer
    layer_once k less e = ap (λ (i : LayerId). last (λ t. same_layer i (layer_at words numbers t)) k) (same_layer_is l (layer_at words numbers k) e) ∙ wf.layers_once k less

    -- `find_layer` of the view
    pub finds_layer : (edges : List Float) → M.find_layer l (view h words numbers edges).by_layer ≡ at_entry (layer_entry_at words numbers) (find_layer words numbers l h.layers)
    unfolding view find_layer
    finds_layer edges =
        layer_plain l (firsts (layers_of h) (layer_entry_at words numbers))
        ∙ rw (unclamped max_layers h.layers wf.layers_fit) (finds (λ y. same_layer l y.layer_id) (layer_entry_at words numbers) h.layers layer_once)
