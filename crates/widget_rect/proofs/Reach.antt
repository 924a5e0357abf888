-- Every set that the model's insertions reach is what some well-formed table holds, and of those it is known. Assumes nothing.
use Rattle.std.specs.Prelude.{Ok, Err, Result}
use mathlib.Core.Path.{◌≡◌, sym, ◌∙◌, ap, subst}
use Prim.Native.Nat.{ℕ, zero, suc, ◌<◌, ◌≤◌}
use native.Mathlib.Omega.{arith}
use native.Mathlib.Nat.{eq-or-lt_of_le}
use mathlib.Core.Logic.{◌⊎◌, ⊎_elim}
use mathlib.Core.List.{List, [], ◌∷◌}
use lib.Dec.{eqb}
use lib.Ieee.{Float, nan}
use lib.ListN.{length, get_or, replicate, length-replicate, get_or-append}
use lib.Seq.{get_or_at}
use borrow.Author.Tests.{eq-eqb}
use Rattle.data.specs.Limits.{max_widgets, max_layers}
use Rattle.data.specs.declared.widget.WidgetRect.{WidgetRect}
use Rattle.model.specs.Widgets as M
use Rattle.model.specs.Widgets.{Known, Layer, same_layer}
use Rattle.widget_index.specs.declared.table.WidgetRects.{WidgetRects}
use Rattle.widget_append.specs.declared.Insertion.{Insertion}
use Rattle.data.specs.declared.refusal.InsertRefusal.{InsertRefusal}
use Rattle.widget_index.specs.Layout.{id_at, place_at, layer_of, position_of, place, count_at}
use Rattle.widget_index.specs.Table.{firsts, widgets_of, layers_of, layer_at, known_at, layer_entry_at, view}
use Rattle.widget_append.specs.Append.{Outcome, set_after, settled_by}
use Rattle.widget_insert.specs.Insert.{decide}
use Rattle.widget_rect.specs.Reached.{Reached, starts, inserts, Orderly, nobody, nowhere, known, layer, EveryReachedSetIsOrderly}
use Rattle.widget_rect.specs.WellFormed.{Indexed, WellFormed}
use Rattle.widget_rect.specs.Told.{told}
use Rattle.widget_rect.proofs.Lists.{last_none, length_firsts}
use Rattle.widget_rect.proofs.Index.{unclamped, unlike, same_layer_refl}
use Rattle.widget_rect.proofs.Fall.{place_whole}
use Rattle.widget_rect.proofs.Update.{layers_differ, place_fits, layer_inside}
use Rattle.widget_rect.proofs.Agree.{decide_right}
use Rattle.widget_rect.proofs.Asked.{is_empty}

-- a table that holds the set
record Held (s : M.WidgetRects) : Type 0 where
  pub h : WidgetRects
  pub words : List ℕ
  pub numbers : List ℕ
  pub edges : List Float
  pub well_formed : WellFormed h words numbers edges
  pub holds : view h words numbers edges ≡ s

-- ---- an answer that is taken

the_set : M.Inserted → M.WidgetRects
the_set (M.refused why) = M.no_widgets
the_set (M.inserted i) = i.widgets

was_taken : (a : Result Insertion InsertRefusal) (v : M.WidgetRects) (z : List WidgetRect) (i : M.Insertion) → told a v z ≡ M.inserted i → v ≡ i.widgets
unfolding told the_set
was_taken (Err why) v z i e = absurd (never e)
  where
    never : M.refused why ≡ M.inserted i → ⊥
    never x = let z : ◌≡◌ {A = ℕ} 0 1 = cc in omega arith
was_taken (Ok p) v z i e = ap the_set e

held : (s : M.WidgetRects) → Reached s → Held s
held s starts =
    record {
      h = record { widgets = 0; layers = 0 };
      words = replicate 2080 0;
      numbers = replicate 5184 0;
      edges = replicate 8192 nan;
      well_formed = is_empty.well_formed (replicate 2080 0) (replicate 5184 0) (replicate 8192 nan) (length-replicate {A = ℕ} 2080 0) (length-replicate {A = ℕ} 5184 0) (length-replicate {A = Float} 8192 nan);
      holds = is_empty.model (replicate 2080 0) (replicate 5184 0) (replicate 8192 nan);
    }
held s (inserts {s = before} top slice w i reached e) = next (held before reached)
  where
    next : Held before → Held i.widgets
    next b =
        record {
          h = set_after b.h o.decision;
          words = o.words;
          numbers = o.numbers;
          edges = o.edges;
          well_formed = done.well_formed;
          holds = was_taken o.decision _ (settled_by o.decision slice) i (done.agrees ∙ ap (λ v. M.insert top v slice w) b.holds ∙ e);
        }
      where
        o : Outcome
        o = decide b.h b.words b.numbers b.edges (length slice) w top

        done : Rattle.widget_rect.proofs.Agree.Right b.h b.words b.numbers b.edges slice w top b.well_formed.indexed b.well_formed.words_long b.well_formed.numbers_long b.well_formed.edges_long (decide b.h b.words b.numbers b.edges (length slice) w top)
        done = decide_right b.h b.words b.numbers b.edges slice w top b.well_formed.indexed b.well_formed.words_long b.well_formed.numbers_long b.well_formed.edges_long

-- ---- the k-th of the first n values

getD_firsts : {A : Type 0} (d : A) (f : ℕ → A) (n k : ℕ) → k < n → get_or (firsts n f) k d ≡ f k
unfolding firsts
getD_firsts d f zero k less = absurd (never less)
  where
    never : k < 0 → ⊥
    never x = omega arith
getD_firsts d f (suc n) k less = go (getD_firsts d f n k) (eq-or-lt_of_le (at_most less))
  where
    at_most : k < suc n → k ≤ n
    at_most x = omega arith

    go : (k < n → get_or (firsts n f) k d ≡ f k) → (k ≡ n) ⊎ (k < n) → get_or (firsts (suc n) f) k d ≡ f k
    go hyp = ⊎_elim
        (λ e. subst (λ (j : ℕ). get_or (firsts (suc n) f) j d ≡ f j) (sym e) (get_or_at (firsts n f) (f n) [] d n (length_firsts f n)))
        (λ below. get_or-append (firsts n f) (f n ∷ []) d k (subst (λ (m : ℕ). k < m) (sym (length_firsts f n)) below) ∙ hyp below)

module _ (h : WidgetRects) (words numbers : List ℕ) (edges : List Float) (wf : Indexed h words numbers) where
  abbrev s : M.WidgetRects
  s = view h words numbers edges

  widgets_count : length s.by_id ≡ h.widgets
  unfolding view
  widgets_count = length_firsts (known_at words numbers edges) (widgets_of h) ∙ unclamped max_widgets h.widgets wf.widgets_fit

  layers_count : length s.by_layer ≡ h.layers
  unfolding view
  layers_count = length_firsts (layer_entry_at words numbers) (layers_of h) ∙ unclamped max_layers h.layers wf.layers_fit

  in_slots : (k : ℕ) → k < length s.by_id → k < h.widgets
  in_slots k less = subst (λ (m : ℕ). k < m) widgets_count less

  in_layers : (l : ℕ) → l < length s.by_layer → l < h.layers
  in_layers l less = subst (λ (m : ℕ). l < m) layers_count less

  the_known : (k : ℕ) → k < h.widgets → known s k ≡ known_at words numbers edges k
  unfolding view
  the_known k less = getD_firsts nobody (known_at words numbers edges) (widgets_of h) k (subst (λ (m : ℕ). k < m) (sym (unclamped max_widgets h.widgets wf.widgets_fit)) less)

  the_layer : (l : ℕ) → l < h.layers → layer s l ≡ layer_entry_at words numbers l
  unfolding view
  the_layer l less = getD_firsts nowhere (layer_entry_at words numbers) (layers_of h) l (subst (λ (m : ℕ). l < m) (sym (unclamped max_layers h.layers wf.layers_fit)) less)

  ids : (j k : ℕ) → j < k → k < length s.by_id → (known s j).widget.id ≡ (known s k).widget.id → ⊥
  ids j k order less e =
      unlike (sym (eq-eqb (id_at words k) (id_at words j) same) ∙ last_none (λ t. eqb (id_at words k) (id_at words t)) k (wf.ids_once k (in_slots k less)) j order)
    where
      k_less : k < h.widgets
      k_less = in_slots k less

      j_less : j < h.widgets
      j_less = omega (arith, k_less)

      same : id_at words k ≡ id_at words j
      same = sym (ap (λ (x : Known). x.widget.id) (the_known k k_less)) ∙ sym e ∙ ap (λ (x : Known). x.widget.id) (the_known j j_less)

  layer_number : (k : ℕ) → k < h.widgets → layer_of (place_at numbers k) < h.layers
  layer_number k less = layer_inside h words numbers wf k less

  -- two of one layer have one number of it
  same_number : (j k : ℕ) → j < h.widgets → k < h.widgets → (known s j).widget.layer_id ≡ (known s k).widget.layer_id → layer_of (place_at numbers j) ≡ layer_of (place_at numbers k)
  same_number j k less less' e =
      layers_differ h words numbers wf (layer_of (place_at numbers j)) (layer_of (place_at numbers k)) (layer_number j less) (layer_number k less')
      (ap (λ i. same_layer i (layer_at words numbers (layer_of (place_at numbers k)))) same ∙ same_layer_refl (layer_at words numbers (layer_of (place_at numbers k))))
    where
      same : layer_at words numbers (layer_of (place_at numbers j)) ≡ layer_at words numbers (layer_of (place_at numbers k))
      same = sym (ap (λ (x : Known). x.widget.layer_id) (the_known j less)) ∙ e ∙ ap (λ (x : Known). x.widget.layer_id) (the_known k less')

  whole : (k : ℕ) → k < h.widgets → place_at numbers k ≡ place (layer_of (place_at numbers k)) (position_of (place_at numbers k))
  whole k less = place_whole 0 0 (place_at numbers k) (omega arith) (omega arith) (place_fits h words numbers wf k less)

  once : (j k : ℕ) → j < k → k < length s.by_id → (known s j).widget.layer_id ≡ (known s k).widget.layer_id → (known s j).position ≡ (known s k).position → ⊥
  once j k order less e f =
      wf.places_once j k order k_less
      (whole j j_less ∙ ap (λ (l : ℕ). place l (position_of (place_at numbers j))) (same_number j k j_less k_less e) ∙ ap (place (layer_of (place_at numbers k))) same ∙ sym (whole k k_less))
    where
      k_less : k < h.widgets
      k_less = in_slots k less

      j_less : j < h.widgets
      j_less = omega (arith, k_less)

      same : position_of (place_at numbers j) ≡ position_of (place_at numbers k)
      same = sym (ap (λ (x : Known). x.position) (the_known j j_less)) ∙ f ∙ ap (λ (x : Known). x.position) (the_known k k_less)

  fit : (k : ℕ) → k < length s.by_id → (l : ℕ) × ((l < length s.by_layer) × ((layer s l).layer_id ≡ (known s k).widget.layer_id) × ((known s k).position < (layer s l).count))
  fit k less = (
    layer_of (place_at numbers k),
    (
      subst (λ (m : ℕ). layer_of (place_at numbers k) < m) (sym layers_count) (layer_number k k_less),
      ap (λ (y : Layer). y.layer_id) (the_layer _ (layer_number k k_less)) ∙ sym (ap (λ (x : Known). x.widget.layer_id) (the_known k k_less)),
      rw (the_known k k_less, the_layer _ (layer_number k k_less)) (wf.positions_fit k k_less),
    ),
  )
    where
      k_less : k < h.widgets
      k_less = in_slots k less

  taken : (l p : ℕ) → l < length s.by_layer → p < (layer s l).count → (k : ℕ) × ((k < length s.by_id) × ((known s k).widget.layer_id ≡ (layer s l).layer_id) × ((known s k).position ≡ p))
  taken l p less below = found (wf.places_taken l p l_less p_less)
    where
      l_less : l < h.layers
      l_less = in_layers l less

      p_less : p < count_at numbers l
      p_less = subst (λ (y : Layer). p < y.count) (the_layer l l_less) below

      small : (l < 32) × (p < 2048)
      small = (omega (arith, wf.layers_fit, l_less), omega (arith, p_less))

      the_number : layer_of (place l p) ≡ l
      the_number = omega (arith, small.0, small.1)

      the_position : position_of (place l p) ≡ p
      the_position = omega (arith, small.1)

      found : (k : ℕ) × ((k < h.widgets) × (place_at numbers k ≡ place l p)) → (k : ℕ) × ((k < length s.by_id) × ((known s k).widget.layer_id ≡ (layer s l).layer_id) × ((known s k).position ≡ p))
      found x = (
        x.0,
        (
          subst (λ (m : ℕ). x.0 < m) (sym widgets_count) x.1.0,
          ap (λ (y : Known). y.widget.layer_id) (the_known x.0 x.1.0) ∙ ap (layer_at words numbers) (ap layer_of x.1.1 ∙ the_number) ∙ sym (ap (λ (y : Layer). y.layer_id) (the_layer l l_less)),
          ap (λ (y : Known). y.position) (the_known x.0 x.1.0) ∙ ap position_of x.1.1 ∙ the_position,
        ),
      )

  orderly : Orderly s
  orderly =
      record {
        few_widgets = subst (λ (m : ℕ). m ≤ max_widgets) (sym widgets_count) wf.widgets_fit;
        few_layers = subst (λ (m : ℕ). m ≤ max_layers) (sym layers_count) wf.layers_fit;
        ids_once = ids;
        positions_fit = fit;
        positions_once = once;
        positions_taken = taken;
      }

pub every_reached_set_is_orderly : EveryReachedSetIsOrderly
every_reached_set_is_orderly s reached = subst Orderly b.holds (orderly b.h b.words b.numbers b.edges b.well_formed.indexed)
  where
    b : Held s
    b = held s reached
