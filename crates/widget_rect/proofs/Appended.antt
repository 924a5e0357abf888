-- A new widget, in the model's terms: the view after the stores is the model's set with the widget appended. Assumes nothing.
use Rattle.std.specs.Prelude.{None, Some}
use mathlib.Core.Path.{◌≡◌, refl, sym, ◌∙◌, ap}
use Prim.Native.Nat.{ℕ, suc, ◌+◌, ◌<◌, ◌/◌, ◌%◌}
use native.Mathlib.Omega.{arith}
use native.Mathlib.Numerals.{add-one}
use mathlib.Core.Bool.{Bool, true, false}
use mathlib.Core.List.{List, [], ◌∷◌, ◌++◌}
use lib.Dec.{eqb}
use lib.Ieee.{Float}
use lib.ListN.{length, get_or}
use borrow.Author.Tests.{eqb-true, eqb-false}
use Rattle.data.specs.Limits.{max_widgets, max_layers}
use Rattle.data.specs.declared.layers.LayerId.{LayerId}
use Rattle.data.specs.declared.widget.WidgetRect.{WidgetRect}
use Rattle.model.specs.Widgets.{Layer, same_layer, count_in}
use Rattle.widget_index.specs.declared.table.WidgetRects.{WidgetRects}
use Rattle.widget_index.specs.Layout.{span, place_at, layer_of, position_of, place, count_at, packed}
use Rattle.widget_index.specs.Table.{firsts, last, layer_at, known_at, layer_entry_at, view, head, find, find_layer}
use Rattle.widget_append.specs.Append.{appended_words, appended_numbers, layers_after, with_edges}
use Rattle.widget_rect.specs.Questions.{at_entry}
use Rattle.widget_rect.specs.WellFormed.{Indexed}
use Rattle.widget_rect.proofs.Lists.{last_is, firsts_cong, first_such, change_such, finds, changes, but}
use Rattle.widget_rect.proofs.Index.{unclamped, layer_once}
use Rattle.widget_rect.proofs.Records.{rect_kept, interact_rect_kept, rect_new, interact_rect_new, sense_back, enabled_back, visible_back, widget_parts, known_parts}
use Rattle.widget_rect.proofs.Append as A
use Rattle.widget_rect.proofs.Append.{Home}

-- ---- counting in

abbrev is_layer : LayerId → Layer → Bool
is_layer l y = same_layer l y.layer_id

abbrev more : Layer → Layer
more y = record { layer_id = y.layer_id; count = y.count + 1 }

no_such : {A : Type 0} (x : A) → None ≡ Some x → ⊥
no_such x h = let z : ◌≡◌ {A = ℕ} 0 1 = cc in omega arith

counts_new : (l : LayerId) (ys : List Layer) → first_such (is_layer l) ys ≡ None → count_in l ys ≡ ys ++ (record { layer_id = l; count = 1 } ∷ [])
unfolding count_in first_such
counts_new l [] e = refl
counts_new l (y ∷ ys) e = go (counts_new l ys) (same_layer l y.layer_id) refl
  where
    go : (first_such (is_layer l) ys ≡ None → count_in l ys ≡ ys ++ (record { layer_id = l; count = 1 } ∷ [])) → (b : Bool) → same_layer l y.layer_id ≡ b → count_in l (y ∷ ys) ≡ (y ∷ ys) ++ (record { layer_id = l; count = 1 } ∷ [])
    go hyp true t = absurd (no_such y (sym (rw t at e)))
    go hyp false t = rw t (ap (λ zs. y ∷ zs) (hyp (rw t at e)))

counts_known : (l : LayerId) (ys : List Layer) (z : Layer) → first_such (is_layer l) ys ≡ Some z → count_in l ys ≡ change_such (is_layer l) more ys
unfolding count_in first_such change_such
counts_known l [] z e = absurd (no_such z e)
counts_known l (y ∷ ys) z e = go (counts_known l ys z) (same_layer l y.layer_id) refl
  where
    go : (first_such (is_layer l) ys ≡ Some z → count_in l ys ≡ change_such (is_layer l) more ys) → (b : Bool) → same_layer l y.layer_id ≡ b → count_in l (y ∷ ys) ≡ change_such (is_layer l) more (y ∷ ys)
    go hyp true t = rw t
    go hyp false t = rw t (ap (λ zs. y ∷ zs) (hyp (rw t at e)))

-- ---- where the widget's layer is

module _ (h : WidgetRects) (words numbers : List ℕ) (wf : Indexed h words numbers) (layer : LayerId) where
  abbrev is : ℕ → Bool
  is k = same_layer layer (layer_at words numbers k)

  pub home_known : (l : ℕ) → find_layer words numbers layer h.layers ≡ suc l → Home h words numbers layer l (count_at numbers l)
  unfolding find_layer
  home_known l found =
      record {
        fits = omega (arith, at_l.0, wf.layers_fit);
        within = omega (arith, at_l.0);
        small = omega (arith, wf.counts_fit l at_l.0);
        counted = λ less. refl;
        same = λ less. at_l.1;
        fresh = λ e. absurd (never e);
        none_counted = λ e. absurd (never e);
      }
    where
      at_l : (l < h.layers) × (is l ≡ true)
      at_l = last_is is h.layers l found

      never : l ≡ h.layers → ⊥
      never e = omega (arith, at_l.0)

  pub home_new : find_layer words numbers layer h.layers ≡ 0 → h.layers < max_layers → Home h words numbers layer h.layers 0
  home_new none-there room =
      record { fits = room; within = omega arith; small = omega arith; counted = λ less. absurd (never less); same = λ less. absurd (never less); fresh = λ e. none-there; none_counted = λ e. refl }
    where
      never : h.layers < h.layers → ⊥
      never e = omega arith

module _ (h : WidgetRects) (words numbers : List ℕ) (edges : List Float) (w : WidgetRect) (wf : Indexed h words numbers) (lw : length words ≡ 2080) (ln : length numbers ≡ 5184) (le : length edges ≡ 8192)
    (room : h.widgets < max_widgets) (unknown : find h words numbers w.id ≡ 0) (shaped : w.sense < 8) where
  abbrev n : ℕ
  n = h.widgets

  module _ (l count : ℕ) (home : Home h words numbers w.layer_id l count) where
    abbrev words' : List ℕ
    words' = appended_words n l w words

    abbrev numbers' : List ℕ
    numbers' = appended_numbers n l count (head h words numbers w.id) w numbers

    abbrev edges' : List Float
    edges' = with_edges n w edges

    abbrev h' : WidgetRects
    h' = record { widgets = n + 1; layers = layers_after h.layers l }

    other : (s : ℕ) → s < n → s ≡ n → ⊥
    other s less e = omega arith

    known_kept : (s : ℕ) → s < n → known_at words' numbers' edges' s ≡ known_at words numbers edges s
    known_kept s less =
        known_parts _ _ _ _ (ap position_of at_place)
        (widget_parts _ _ _ _ _ _ _ _ _ _ _ _ _ _ _ _
        (A.id_kept h words numbers w l count wf lw ln room unknown home s less)
        (A.parent_kept h words numbers w l count wf lw ln room unknown home s less)
        (ap (λ (p : ℕ). layer_at words' numbers' (layer_of p)) at_place ∙ A.layer_kept h words numbers w l count wf lw ln room unknown home _ (A.layer_known h words numbers w l count wf lw ln room unknown home s less))
        (rect_kept n w edges s (other s less))
        (interact_rect_kept n w edges s (other s less))
        (ap (λ (t : ℕ). t / 4) at_trait)
        (ap (λ (t : ℕ). eqb (t / 2 % 2) 1) at_trait)
        (ap (λ (t : ℕ). eqb (t % 2) 1) at_trait))
      where
        at_place : place_at numbers' s ≡ place_at numbers s
        at_place = A.place_kept h words numbers w l count wf lw ln room unknown home s less

        at_trait : get_or numbers' (4096 + s) 0 ≡ get_or numbers (4096 + s) 0
        at_trait = A.trait_kept h words numbers w l count wf lw ln room unknown home s less

    known_new : known_at words' numbers' edges' n ≡ record { position = count; widget = w }
    known_new =
        known_parts _ _ _ _ (ap position_of at_place ∙ A.position_of_new h words numbers w l count wf lw ln room unknown home)
        (widget_parts _ _ _ _ _ _ _ _ _ _ _ _ _ _ _ _
        (A.id_new h words numbers w l count wf lw ln room unknown home)
        (A.parent_new h words numbers w l count wf lw ln room unknown home)
        (ap (λ (p : ℕ). layer_at words' numbers' (layer_of p)) at_place ∙ ap (layer_at words' numbers') (A.layer_of_new h words numbers w l count wf lw ln room unknown home) ∙ A.layer_new h words numbers w l count wf lw ln room unknown home)
        (rect_new n w edges room le)
        (interact_rect_new n w edges room le)
        (ap (λ (t : ℕ). t / 4) at_trait ∙ sense_back w.sense w.enabled w.visible shaped)
        (ap (λ (t : ℕ). eqb (t / 2 % 2) 1) at_trait ∙ enabled_back w.sense w.enabled w.visible)
        (ap (λ (t : ℕ). eqb (t % 2) 1) at_trait ∙ visible_back w.sense w.enabled w.visible))
      where
        at_place : place_at numbers' n ≡ place l count
        at_place = A.place_new h words numbers w l count wf lw ln room unknown home

        at_trait : get_or numbers' (4096 + n) 0 ≡ packed w.sense w.enabled w.visible
        at_trait = A.trait_new h words numbers w l count wf lw ln room unknown home

    pub by_id_appended : (view h' words' numbers' edges').by_id ≡ (view h words numbers edges).by_id ++ (record { position = count; widget = w } ∷ [])
    unfolding view firsts
    by_id_appended =
        rw (unclamped max_widgets (n + 1) (omega arith), unclamped max_widgets n wf.widgets_fit)
        (ap (λ (m : ℕ). firsts m (known_at words' numbers' edges')) (add-one n)
        ∙ ap (λ ks. ks ++ (known_at words' numbers' edges' n ∷ [])) (firsts_cong (known_at words' numbers' edges') (known_at words numbers edges) n known_kept)
        ∙ ap (λ k. firsts n (known_at words numbers edges) ++ (k ∷ [])) known_new)

    layers' : (l < h.layers → h'.layers ≡ h.layers) × (l ≡ h.layers → h'.layers ≡ h.layers + 1)
    layers' = A.layers_are h words numbers w l count wf lw ln room unknown home

    entry_parts : (i j : LayerId) (a b : ℕ) → i ≡ j → a ≡ b → ◌≡◌ {A = Layer} (record { layer_id = i; count = a }) (record { layer_id = j; count = b })
    entry_parts i j a b e f = rw (e, f)

    entry_kept : (k : ℕ) → k < h.layers → (k ≡ l → ⊥) → layer_entry_at words' numbers' k ≡ layer_entry_at words numbers k
    entry_kept k less apart =
        entry_parts _ _ _ _ (A.layer_kept h words numbers w l count wf lw ln room unknown home k less)
        (ap (λ (c : ℕ). c % span) (A.count_kept h words numbers w l count wf lw ln room unknown home k (omega (arith, wf.layers_fit)) apart))

    count_new : count_at numbers' l ≡ count + 1
    count_new = rw (A.count_new h words numbers w l count wf lw ln room unknown home) (omega (arith, home.small))

    pub by_layer_known : find_layer words numbers w.layer_id h.layers ≡ suc l → (view h' words' numbers' edges').by_layer ≡ count_in w.layer_id (view h words numbers edges).by_layer
    unfolding view find_layer
    by_layer_known found =
        rw (layers'.0 inside, unclamped max_layers h.layers wf.layers_fit)
        (firsts_cong (layer_entry_at words' numbers') (but l (more (layer_entry_at words numbers l)) (layer_entry_at words numbers)) h.layers each
        ∙ sym (changes (is_layer w.layer_id) (layer_entry_at words numbers) more h.layers l once found)
        ∙ sym (counts_known w.layer_id (firsts h.layers (layer_entry_at words numbers)) (layer_entry_at words numbers l) (finds (is_layer w.layer_id) (layer_entry_at words numbers) h.layers once ∙ ap (at_entry (layer_entry_at words numbers)) found)))
      where
        inside : l < h.layers
        inside = (last_is (λ k. same_layer w.layer_id (layer_at words numbers k)) h.layers l found).0

        once : (k : ℕ) → k < h.layers → same_layer w.layer_id (layer_at words numbers k) ≡ true → last (λ t. same_layer w.layer_id (layer_at words numbers t)) k ≡ 0
        once = layer_once h words numbers wf w.layer_id

        each : (k : ℕ) → k < h.layers → layer_entry_at words' numbers' k ≡ but l (more (layer_entry_at words numbers l)) (layer_entry_at words numbers) k
        each k less = go (eqb k l) refl
          where
            go : (b : Bool) → eqb k l ≡ b → layer_entry_at words' numbers' k ≡ but l (more (layer_entry_at words numbers l)) (layer_entry_at words numbers) k
            go true t =
                rw t (ap (layer_entry_at words' numbers') (eqb-true k l t)
                ∙ entry_parts _ _ _ _ (A.layer_kept h words numbers w l count wf lw ln room unknown home l inside) (count_new ∙ ap (λ (c : ℕ). c + 1) (home.counted inside)))
            go false t = rw t (entry_kept k less (eqb-false k l t))

    pub by_layer_new : find_layer words numbers w.layer_id h.layers ≡ 0 → l ≡ h.layers → count ≡ 0 → (view h' words' numbers' edges').by_layer ≡ count_in w.layer_id (view h words numbers edges).by_layer
    unfolding view find_layer firsts
    by_layer_new none-there last_one none_counted =
        rw (layers'.1 last_one, unclamped max_layers (h.layers + 1) (omega (arith, home.fits)), unclamped max_layers h.layers wf.layers_fit)
        (ap (λ (m : ℕ). firsts m (layer_entry_at words' numbers')) (add-one h.layers)
        ∙ ap (λ ys. ys ++ (layer_entry_at words' numbers' h.layers ∷ [])) (firsts_cong (layer_entry_at words' numbers') (layer_entry_at words numbers) h.layers (λ k less. entry_kept k less (λ e. omega arith)))
        ∙ ap (λ y. firsts h.layers (layer_entry_at words numbers) ++ (y ∷ [])) at_end
        ∙ sym (counts_new w.layer_id (firsts h.layers (layer_entry_at words numbers)) (finds (is_layer w.layer_id) (layer_entry_at words numbers) h.layers (layer_once h words numbers wf w.layer_id) ∙ ap (at_entry (layer_entry_at words numbers)) none-there)))
      where
        at_end : layer_entry_at words' numbers' h.layers ≡ record { layer_id = w.layer_id; count = 1 }
        at_end =
            ap (layer_entry_at words' numbers') (sym last_one) ∙ entry_parts _ _ _ _ (A.layer_new h words numbers w l count wf lw ln room unknown home) (count_new ∙ ap (λ (c : ℕ). c + 1) none_counted)
