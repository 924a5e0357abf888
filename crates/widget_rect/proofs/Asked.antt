-- What the questions answer of a well-formed set, and that the empty set is one. Assumes nothing.
use Rattle.std.specs.Prelude.{Option, None, Some, is_some}
use mathlib.Core.Path.{◌≡◌, refl, sym, ◌∙◌, ap}
use Prim.Native.Nat.{ℕ, zero, suc, ◌-◌, ◌<◌}
use native.Mathlib.Omega.{arith}
use mathlib.Core.Bool.{Bool, not, cond}
use mathlib.Core.List.{List}
use lib.Dec.{eqb, leb, ltb, eqb-suc-zero}
use lib.Ieee.{Float}
use borrow.Author.Tests.{lt-leb}
use Rattle.data.specs.Limits.{max_layers}
use Rattle.data.specs.declared.layers.LayerId.{LayerId}
use Rattle.model.specs.Widgets as M
use Rattle.widget_index.specs.declared.table.WidgetRects.{WidgetRects}
use Rattle.widget_index.specs.Layout.{head_at, id_at, entry_of}
use Rattle.widget_index.specs.Table.{at_most, firsts, layers_of, layer_at, layer_entry_at, known_at, view, bucket, head, find, find_layer}
use Rattle.widget_append.specs.Append.{count_of}
use Rattle.widget_rect.specs.Questions.{Empty, Contains, Gets, Orders, Counts, Layers, at_entry}
use Rattle.data.specs.declared.widget.WidgetRect.{WidgetRect}
use Rattle.widget_rect.specs.WellFormed.{Indexed, WellFormed}
use Rattle.widget_rect.proofs.Lists.{last_zero, map_firsts}
use Rattle.widget_rect.proofs.Index.{unclamped, finds_known, finds_layer}

abbrev empty : WidgetRects
empty = record { widgets = 0; layers = 0 }

never : (s : ℕ) → s < 0 → ⊥
never s h = omega arith

-- whatever stands in a bucket, there is no slot
no_head : (words numbers : List ℕ) (d : ℕ) → head empty words numbers d ≡ 0
unfolding head at_most
no_head words numbers d = go (head_at numbers (bucket d))
  where
    go : (e : ℕ) → cond (eqb e 0) 0 (cond (leb e 0) (cond (eqb (bucket (id_at words (e - 1))) (bucket d)) e 0) 0) ≡ 0
    go zero = refl
    go (suc e) = rw (eqb-suc-zero, lt-leb (suc e) 0 (omega arith))

indexed_empty : (words numbers : List ℕ) → Indexed empty words numbers
indexed_empty words numbers =
    record {
      widgets_fit = omega arith;
      layers_fit = omega arith;
      heads = λ d. no_head words numbers d ∙ sym (last_zero (λ s. eqb (bucket d) (bucket (id_at words s))));
      links_lead = λ s h. absurd (never s h);
      ids_once = λ s h. absurd (never s h);
      layers_once = λ l h. absurd (never l h);
      counts_fit = λ l h. absurd (never l h);
      layers_known = λ s h. absurd (never s h);
      positions_fit = λ s h. absurd (never s h);
      places_once = λ s t order h. absurd (never t h);
      places_taken = λ l p h. absurd (never l h);
    }

no_view : (words numbers : List ℕ) (edges : List Float) → view empty words numbers edges ≡ M.no_widgets
unfolding view M.no_widgets firsts at_most
no_view words numbers edges = refl

pub is_empty : Empty empty
is_empty = record { model = no_view; well_formed = λ words numbers edges lw ln le. record { words_long = lw; numbers_long = ln; edges_long = le; indexed = indexed_empty words numbers } }

module _ (h : WidgetRects) (words numbers : List ℕ) where
  module _ (edges : List Float) (wf : WellFormed h words numbers edges) (d : ℕ) where
    known : M.find_known d (view h words numbers edges).by_id ≡ at_entry (known_at words numbers edges) (find h words numbers d)
    known = finds_known h words numbers wf.indexed d edges

    pub gets : M.get d (view h words numbers edges) ≡ M.widget_of (at_entry (known_at words numbers edges) (find h words numbers d))
    unfolding M.get
    gets = ap M.widget_of known

    pub orders : M.order d (view h words numbers edges) ≡ M.order_of (at_entry (known_at words numbers edges) (find h words numbers d))
    unfolding M.order
    orders = ap M.order_of known

    is_there : (e : ℕ) → M.is_known (at_entry (known_at words numbers edges) e) ≡ not (eqb e 0)
    unfolding M.is_known
    is_there zero = refl
    is_there (suc e) = rw eqb-suc-zero

    pub contains : M.contains d (view h words numbers edges) ≡ not (eqb (find h words numbers d) 0)
    unfolding M.contains
    contains = ap M.is_known known ∙ is_there (find h words numbers d)

  pub counts : (edges : List Float) → WellFormed h words numbers edges → (l : LayerId) → M.layer_count l (view h words numbers edges) ≡ count_of numbers (find_layer words numbers l (layers_of h))
  unfolding M.layer_count M.count_of count_of
  counts edges wf l = rw (finds_layer h words numbers wf.indexed l edges, unclamped max_layers h.layers wf.indexed.layers_fit) (go (find_layer words numbers l h.layers))
    where
      go : (e : ℕ) → M.count_of (at_entry (layer_entry_at words numbers) e) ≡ count_of numbers e
      go zero = refl
      go (suc k) = let one : suc k - 1 ≡ k = omega arith in rw (eqb-suc-zero, one)

  pub ids : (edges : List Float) → M.layer_ids (view h words numbers edges) ≡ firsts (layers_of h) (layer_at words numbers)
  unfolding M.layer_ids view
  ids edges = map_firsts (λ y. y.layer_id) (layer_entry_at words numbers) (layers_of h)

  -- ---- what the functions ensure, from the index's own way
  pub answers_contains : (d : ℕ) (r : Bool) → r ≡ not (eqb (find h words numbers d) 0) → Contains h words numbers d r
  answers_contains d r e = record { own = e; model = λ edges wf. e ∙ sym (contains edges wf d) }

  pub answers_get : (edges : List Float) (d : ℕ) (r : Option WidgetRect) → r ≡ M.widget_of (at_entry (known_at words numbers edges) (find h words numbers d)) → Gets h words numbers edges d r
  answers_get edges d r e = record { own = e; model = λ wf. e ∙ sym (gets edges wf d) }

  pub answers_order : (edges : List Float) (d : ℕ) (r : Option (LayerId × ℕ)) → r ≡ M.order_of (at_entry (known_at words numbers edges) (find h words numbers d)) → Orders h words numbers edges d r
  answers_order edges d r e = record { own = e; model = λ wf. e ∙ sym (orders edges wf d) }

  pub answers_count : (l : LayerId) (r : ℕ) → r ≡ count_of numbers (find_layer words numbers l (layers_of h)) → Counts h words numbers l r
  answers_count l r e = record { own = e; model = λ edges wf. e ∙ sym (counts edges wf l) }

  pub answers_layer : (i : ℕ) (r : Option LayerId) → r ≡ cond (ltb i (layers_of h)) (Some (layer_at words numbers i)) None → Layers h words numbers i r
  answers_layer i r e = record { own = e; model = ids }

-- ---- an entry

pub is_there_if : (o : Option ℕ) → is_some o ≡ not (eqb (entry_of o) 0)
is_there_if None = refl
is_there_if (Some s) = rw eqb-suc-zero
