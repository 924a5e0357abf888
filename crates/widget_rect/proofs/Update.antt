-- A known widget in a well-formed set: replaced in its place, or moved to the top. The set stays well-formed, and its view is the model's. Assumes nothing.
use mathlib.Core.Path.{◌≡◌, refl, sym, ◌∙◌, ap, subst}
use Prim.Native.Nat.{ℕ, suc, ◌+◌, ◌-◌, ◌*◌, ◌<◌, ◌≤◌, ◌/◌, ◌%◌}
use native.Mathlib.Omega.{arith}
use native.Mathlib.Nat.{eq-or-lt_of_le}
use mathlib.Core.Bool.{Bool, true, false, ◌&&◌, ◌||◌, cond}
use mathlib.Core.Logic.{◌⊎◌, inl, inr, ⊎_elim}
use mathlib.Core.List.{List, [], ◌∷◌, map}
use lib.Dec.{eqb, ltb}
use lib.Ieee.{Float}
use lib.ListN.{length, get_or, set, length-set}
use lib.Seq.{get_or-set_same, get_or-set_other}
use borrow.Author.Tests.{eq-eqb, ne_eqb, eqb-true, eqb-false, le-ltb, ltb-true, ltb-false}
use Rattle.data.specs.Limits.{max_widgets}
use Rattle.data.specs.Bits.{bit_number}
use Rattle.data.specs.Sense.{sense_or, senses_click, senses_drag, is_focusable}
use Rattle.data.specs.declared.layers.LayerId.{LayerId}
use Rattle.data.specs.declared.widget.WidgetRect.{WidgetRect}
use Rattle.model.specs.Widgets.{Known, same_layer, updated, with_known}
use Rattle.model.specs.Widgets as M
use Rattle.widget_index.specs.declared.table.WidgetRects.{WidgetRects}
use Rattle.widget_index.specs.Layout.{places, traits, counts, orders, span, id_at, link_at, place_at, layer_of, position_of, place, count_at, packed}
use Rattle.widget_index.specs.Table.{firsts, last, layer_at, widget_at, known_at, layer_entry_at, view, bucket, head, find, find_layer}
use Rattle.widget_append.specs.Append.{with_edges, with_traits}
use Rattle.widget_insert.specs.Insert.{at_least, fall, fallen}
use Rattle.widget_rect.specs.WellFormed.{Indexed}
use Rattle.widget_rect.proofs.Lists.{last_is, last_none, last_cong, firsts_cong, map_firsts, change_such, changes, but}
use Rattle.widget_rect.proofs.Index.{unclamped, not_so, unlike, same_layer_is, same_layer_refl, finds_id}
use Rattle.widget_rect.proofs.Records.{rect_kept, interact_rect_kept, rect_new, interact_rect_new, sense_back, enabled_back, visible_back, widget_parts, known_parts}
use Rattle.widget_rect.proofs.Fall.{length_fall, fall_other, fall_at, later, place_whole, fallen_layer, fallen_position, fallen_bound, fallen_same, fallen_less, is_later, not_later}

-- ---- the union of two senses is one

number_small : (b : Bool) → bit_number b < 2
number_small true = omega arith
number_small false = omega arith

pub union_fits : (a b : ℕ) → sense_or a b < 8
unfolding sense_or
union_fits a b = omega (arith, number_small (senses_click a || senses_click b), number_small (senses_drag a || senses_drag b), number_small (is_focusable a || is_focusable b))

-- ---- an entry of `by_id`

pub with_plain : (d : ℕ) (k : Known) (js : List Known) → with_known d k js ≡ change_such (λ j. eqb d j.widget.id) (λ j. k) js
unfolding with_known change_such
with_plain d k [] = refl
with_plain d k (j ∷ js) = ap (λ r. cond (eqb d j.widget.id) (k ∷ js) (j ∷ r)) (with_plain d k js)

-- ---- numbers that differ in places and traits alone

module _ (h : WidgetRects) (words numbers numbers' : List ℕ) (wf : Indexed h words numbers)
    (low : (j : ℕ) → j < places → get_or numbers' j 0 ≡ get_or numbers j 0) (high : (j : ℕ) → orders ≤ j → get_or numbers' j 0 ≡ get_or numbers j 0) where
  pub layer_same : (k : ℕ) → layer_at words numbers' k ≡ layer_at words numbers k
  layer_same k = rw (high (orders + k) (omega arith))

  pub count_same : (k : ℕ) → count_at numbers' k ≡ count_at numbers k
  count_same k = rw (high (counts + k) (omega arith))

  heads_same : (d : ℕ) → head h words numbers' d ≡ last (λ s. eqb (bucket d) (bucket (id_at words s))) h.widgets
  unfolding head
  heads_same d = rw (low (bucket d) (omega arith)) (wf.heads d)

  links_same : (s : ℕ) → s < h.widgets → link_at numbers' s ≡ last (λ t. eqb (bucket (id_at words s)) (bucket (id_at words t))) s
  unfolding link_at
  links_same s less = rw (low (2048 + s) (omega (arith, wf.widgets_fit))) (wf.links_lead s less)

  layers_same : (k : ℕ) → k < h.layers → find_layer words numbers' (layer_at words numbers' k) k ≡ 0
  unfolding find_layer
  layers_same k less =
      last_cong (λ t. same_layer (layer_at words numbers' k) (layer_at words numbers' t)) (λ t. same_layer (layer_at words numbers k) (layer_at words numbers t)) k
      (λ t below. ap (λ (i : LayerId). same_layer i (layer_at words numbers' t)) (layer_same k) ∙ ap (same_layer (layer_at words numbers k)) (layer_same t))
      ∙ wf.layers_once k less

  pub well_formed_update : ((s : ℕ) → s < h.widgets → place_at numbers' s < h.layers * span)
      → ((s : ℕ) → s < h.widgets → position_of (place_at numbers' s) < count_at numbers (layer_of (place_at numbers' s)))
      → ((s t : ℕ) → s < t → t < h.widgets → place_at numbers' s ≡ place_at numbers' t → ⊥)
      → ((l p : ℕ) → l < h.layers → p < count_at numbers l → (s : ℕ) × ((s < h.widgets) × (place_at numbers' s ≡ place l p))) → Indexed h words numbers'
  well_formed_update known fit once taken =
      record {
        widgets_fit = wf.widgets_fit;
        layers_fit = wf.layers_fit;
        heads = heads_same;
        links_lead = links_same;
        ids_once = wf.ids_once;
        layers_once = layers_same;
        counts_fit = λ k less. rw (high (counts + k) (omega arith)) (wf.counts_fit k less);
        layers_known = known;
        positions_fit = λ s less. rw (count_same (layer_of (place_at numbers' s))) (fit s less);
        places_once = once;
        places_taken = λ l p less below. taken l p less (subst (λ (c : ℕ). p < c) (count_same l) below);
      }

module _ (h : WidgetRects) (words numbers : List ℕ) (wf : Indexed h words numbers) where
  -- no layer stands twice
  pub layers_differ : (a b : ℕ) → a < h.layers → b < h.layers → same_layer (layer_at words numbers a) (layer_at words numbers b) ≡ true → a ≡ b
  unfolding find_layer
  layers_differ a b less less' e = go (ltb a b) refl (ltb b a) refl
    where
      same : layer_at words numbers a ≡ layer_at words numbers b
      same = same_layer_is (layer_at words numbers a) (layer_at words numbers b) e

      never : (x y : ℕ) → x < y → y < h.layers → layer_at words numbers x ≡ layer_at words numbers y → ⊥
      never x y below inside f =
          unlike
          (sym (same_layer_refl (layer_at words numbers y)) ∙ ap (same_layer (layer_at words numbers y)) (sym f) ∙ last_none (λ t. same_layer (layer_at words numbers y) (layer_at words numbers t)) y (wf.layers_once y inside) x below)

      go : (c : Bool) → ltb a b ≡ c → (d : Bool) → ltb b a ≡ d → a ≡ b
      go true t d u = absurd (never a b (ltb-true a b t) less' same)
      go false t true u = absurd (never b a (ltb-true b a u) less (sym same))
      go false t false u = omega (arith, ltb-false a b t, ltb-false b a u)

  module _ (s : ℕ) (less : s < h.widgets) where
    pub place_fits : place_at numbers s < 65536
    place_fits = omega (arith, wf.layers_known s less, wf.layers_fit)

    pub layer_inside : layer_of (place_at numbers s) < h.layers
    layer_inside = omega (arith, wf.layers_known s less, place_fits)

    pub count_is : at_least (position_of (place_at numbers s) + 1) (count_at numbers (layer_of (place_at numbers s))) ≡ count_at numbers (layer_of (place_at numbers s))
    unfolding at_least
    count_is = rw (le-ltb (count_at numbers (layer_of (place_at numbers s))) (position_of (place_at numbers s) + 1) (omega (arith, wf.positions_fit s less)))

    pub count_small : count_at numbers (layer_of (place_at numbers s)) ≤ 1024
    count_small = omega (arith, wf.counts_fit (layer_of (place_at numbers s)) layer_inside, wf.widgets_fit)

-- ---- a known widget's slot, and its record after the insertion

module _ (h : WidgetRects) (words numbers : List ℕ) (edges : List Float) (w : WidgetRect) (s : ℕ) (wf : Indexed h words numbers) (ln : length numbers ≡ 5184) (le : length edges ≡ 8192)
    (found : find h words numbers w.id ≡ suc s) where
  abbrev n : ℕ
  n = h.widgets

  abbrev new : WidgetRect
  new = updated (widget_at words numbers edges s) w

  abbrev numbers₁ : List ℕ
  numbers₁ = with_traits s new numbers

  abbrev edges₁ : List Float
  edges₁ = with_edges s new edges

  abbrev has_id : ℕ → Bool
  has_id t = eqb w.id (id_at words t)

  found_last : last has_id n ≡ suc s
  found_last = sym (finds_id h words numbers wf w.id) ∙ found

  pub inside : s < n
  inside = (last_is has_id n s found_last).0

  pub the_id : w.id ≡ id_at words s
  the_id = eqb-true w.id (id_at words s) (last_is has_id n s found_last).1

  in_table : s < 1024
  in_table = omega (arith, inside, wf.widgets_fit)

  -- ---- traits, and what holds of numbers that have these traits
  module _ (numbers' : List ℕ) (traits_there : (t : ℕ) → t < 1024 → get_or numbers' (traits + t) 0 ≡ get_or numbers₁ (traits + t) 0) (layer_there : (k : ℕ) → layer_at words numbers' k ≡ layer_at words numbers k) where
    trait_new : get_or numbers' (traits + s) 0 ≡ packed new.sense new.enabled new.visible
    trait_new = traits_there s in_table ∙ get_or-set_same numbers (traits + s) (packed new.sense new.enabled new.visible) 0 (omega (arith, ln, in_table))

    trait_kept : (t : ℕ) → t < 1024 → (t ≡ s → ⊥) → get_or numbers' (traits + t) 0 ≡ get_or numbers (traits + t) 0
    trait_kept t small other = traits_there t small ∙ get_or-set_other numbers (traits + s) (traits + t) (packed new.sense new.enabled new.visible) 0 (λ e. other (omega arith))

    new_widget : layer_of (place_at numbers' s) ≡ layer_of (place_at numbers s) → widget_at words numbers' edges₁ s ≡ new
    unfolding updated
    new_widget same-layer-number =
        widget_parts _ _ _ _ _ _ _ _ _ _ _ _ _ _ _ _ refl refl
        (ap (layer_at words numbers') same-layer-number ∙ layer_there (layer_of (place_at numbers s)))
        (rect_new s new edges in_table le) (interact_rect_new s new edges in_table le)
        (ap (λ (t : ℕ). t / 4) trait_new ∙ sense_back new.sense new.enabled new.visible (union_fits _ _))
        (ap (λ (t : ℕ). eqb (t / 2 % 2) 1) trait_new ∙ enabled_back new.sense new.enabled new.visible)
        (ap (λ (t : ℕ). eqb (t % 2) 1) trait_new ∙ visible_back new.sense new.enabled new.visible)

    kept_widget : (t : ℕ) → t < 1024 → (t ≡ s → ⊥) → layer_of (place_at numbers' t) ≡ layer_of (place_at numbers t) → widget_at words numbers' edges₁ t ≡ widget_at words numbers edges t
    kept_widget t small other same-layer-number =
        widget_parts _ _ _ _ _ _ _ _ _ _ _ _ _ _ _ _ refl refl
        (ap (layer_at words numbers') same-layer-number ∙ layer_there (layer_of (place_at numbers t)))
        (rect_kept s new edges t other) (interact_rect_kept s new edges t other)
        (ap (λ (x : ℕ). x / 4) (trait_kept t small other)) (ap (λ (x : ℕ). eqb (x / 2 % 2) 1) (trait_kept t small other)) (ap (λ (x : ℕ). eqb (x % 2) 1) (trait_kept t small other))

  -- ---- replaced
  trait_other : (j : ℕ) → (j ≡ traits + s → ⊥) → get_or numbers₁ j 0 ≡ get_or numbers j 0
  trait_other j other = get_or-set_other numbers (traits + s) j (packed new.sense new.enabled new.visible) 0 other

  place_same : (t : ℕ) → t < 1024 → place_at numbers₁ t ≡ place_at numbers t
  place_same t small = trait_other (places + t) (λ e. omega arith)

  low₁ : (j : ℕ) → j < places → get_or numbers₁ j 0 ≡ get_or numbers j 0
  low₁ j small = trait_other j (λ e. omega arith)

  high₁ : (j : ℕ) → orders ≤ j → get_or numbers₁ j 0 ≡ get_or numbers j 0
  high₁ j large = trait_other j (λ e. omega (arith, in_table))

  small_slot : (t : ℕ) → t < n → t < 1024
  small_slot t less = omega (arith, wf.widgets_fit)

  pub well_formed_replace : Indexed h words numbers₁
  well_formed_replace =
      well_formed_update h words numbers numbers₁ wf low₁ high₁
      (λ t less. rw (place_same t (small_slot t less)) (wf.layers_known t less))
      (λ t less. rw (place_same t (small_slot t less)) (wf.positions_fit t less))
      (λ t u order less e. wf.places_once t u order less (sym (place_same t (small_slot t (omega arith))) ∙ e ∙ place_same u (small_slot u less)))
      (λ l p less below. ((wf.places_taken l p less below).0, ((wf.places_taken l p less below).1.0, place_same _ (small_slot _ (wf.places_taken l p less below).1.0) ∙ (wf.places_taken l p less below).1.1)))

  -- the entries that the model has then, by slot
  once : (f : ℕ → Known) → ((k : ℕ) → (f k).widget.id ≡ id_at words k) → (k : ℕ) → k < n → eqb w.id (f k).widget.id ≡ true → last (λ t. eqb w.id (f t).widget.id) k ≡ 0
  once f ids k less e =
      last_cong (λ t. eqb w.id (f t).widget.id) (λ t. eqb (id_at words k) (id_at words t)) k (λ t below. rw (ids t, eqb-true w.id (id_at words k) (sym (ap (eqb w.id) (ids k)) ∙ e))) ∙ wf.ids_once k less

  entries : (f : ℕ → Known) → ((k : ℕ) → (f k).widget.id ≡ id_at words k) → (k' : Known) → with_known w.id k' (firsts n f) ≡ firsts n (but s k' f)
  entries f ids k' =
      with_plain w.id k' (firsts n f)
      ∙ changes (λ j. eqb w.id j.widget.id) f (λ j. k') n s (once f ids) (last_cong (λ t. eqb w.id (f t).widget.id) has_id n (λ k less. ap (eqb w.id) (ids k)) ∙ found_last)

  layers_view : (numbers' : List ℕ) (edges' : List Float) → ((j : ℕ) → orders ≤ j → get_or numbers' j 0 ≡ get_or numbers j 0) → (view h words numbers' edges').by_layer ≡ (view h words numbers edges).by_layer
  unfolding view
  layers_view numbers' edges' high =
      firsts_cong (layer_entry_at words numbers') (layer_entry_at words numbers) _ (λ k less. rw (high (orders + k) (omega arith), high (counts + k) (omega arith)))

  pub by_layer_replaced : (view h words numbers₁ edges₁).by_layer ≡ (view h words numbers edges).by_layer
  by_layer_replaced = layers_view numbers₁ edges₁ high₁

  pub by_id_replaced : (view h words numbers₁ edges₁).by_id ≡ with_known w.id (record { position = position_of (place_at numbers s); widget = new }) (view h words numbers edges).by_id
  unfolding view
  by_id_replaced =
      rw (unclamped max_widgets n wf.widgets_fit)
      (firsts_cong (known_at words numbers₁ edges₁) (but s (record { position = position_of (place_at numbers s); widget = new }) (known_at words numbers edges)) n each
      ∙ sym (entries (known_at words numbers edges) (λ k. refl) (record { position = position_of (place_at numbers s); widget = new })))
    where
      there : (t : ℕ) → t < 1024 → get_or numbers₁ (traits + t) 0 ≡ get_or numbers₁ (traits + t) 0
      there t small = refl

      layers : (k : ℕ) → layer_at words numbers₁ k ≡ layer_at words numbers k
      layers = layer_same h words numbers numbers₁ wf low₁ high₁

      each : (t : ℕ) → t < n → known_at words numbers₁ edges₁ t ≡ but s (record { position = position_of (place_at numbers s); widget = new }) (known_at words numbers edges) t
      each t less = go (eqb t s) refl
        where
          go : (b : Bool) → eqb t s ≡ b → known_at words numbers₁ edges₁ t ≡ but s (record { position = position_of (place_at numbers s); widget = new }) (known_at words numbers edges) t
          go true e =
              rw e (ap (known_at words numbers₁ edges₁) (eqb-true t s e)
              ∙ known_parts _ _ _ _ (ap position_of (place_same s in_table)) (new_widget numbers₁ there layers (ap layer_of (place_same s in_table))))
          go false e =
              rw e (known_parts _ _ _ _ (ap position_of (place_same t (small_slot t less))) (kept_widget numbers₁ there layers t (small_slot t less) (eqb-false t s e) (ap layer_of (place_same t (small_slot t less)))))

  -- ---- moved to the top
  module _ (count : ℕ) (counted : count ≡ count_at numbers (layer_of (place_at numbers s))) where
    abbrev l : ℕ
    l = layer_of (place_at numbers s)

    abbrev position : ℕ
    position = position_of (place_at numbers s)

    abbrev numbers₂ : List ℕ
    numbers₂ = set (fall n (place l position) (place l span) numbers₁) (places + s) (place l (count - 1))

    count_fits : (position < count) × (count ≤ 1024)
    count_fits = (omega (arith, wf.positions_fit s inside, counted), omega (arith, count_small h words numbers wf s inside, counted))

    l_inside : l < h.layers
    l_inside = layer_inside h words numbers wf s inside

    l_fits : l < 32
    l_fits = omega (arith, l_inside, wf.layers_fit)

    fall_fits : places + n ≤ length numbers₁
    fall_fits = subst (λ (m : ℕ). places + n ≤ m) (sym (length-set numbers (traits + s) (packed new.sense new.enabled new.visible) ∙ ln)) (omega (arith, wf.widgets_fit))

    set_fits : places + s < length (fall n (place l position) (place l span) numbers₁)
    set_fits = subst (λ (m : ℕ). places + s < m) (sym (length_fall (place l position) (place l span) n numbers₁)) (omega (arith, fall_fits, inside))

    elsewhere : (j : ℕ) → ((k : ℕ) → k < 1024 → j ≡ places + k → ⊥) → get_or numbers₂ j 0 ≡ get_or numbers₁ j 0
    elsewhere j other =
        get_or-set_other (fall n (place l position) (place l span) numbers₁) (places + s) j (place l (count - 1)) 0 (other s in_table)
        ∙ fall_other (place l position) (place l span) n numbers₁ j (λ k less. other k (small_slot k less))

    low₂ : (j : ℕ) → j < places → get_or numbers₂ j 0 ≡ get_or numbers j 0
    low₂ j small = elsewhere j (λ k less e. omega arith) ∙ low₁ j small

    high₂ : (j : ℕ) → orders ≤ j → get_or numbers₂ j 0 ≡ get_or numbers j 0
    high₂ j large = elsewhere j (λ k less e. omega arith) ∙ high₁ j large

    traits_there : (t : ℕ) → t < 1024 → get_or numbers₂ (traits + t) 0 ≡ get_or numbers₁ (traits + t) 0
    traits_there t small = elsewhere (traits + t) (λ k less e. omega arith)

    layer_there : (k : ℕ) → layer_at words numbers₂ k ≡ layer_at words numbers k
    layer_there = layer_same h words numbers numbers₂ wf low₂ high₂

    place_last : place_at numbers₂ s ≡ place l (count - 1)
    place_last = get_or-set_same (fall n (place l position) (place l span) numbers₁) (places + s) (place l (count - 1)) 0 set_fits

    place_fallen : (t : ℕ) → t < n → (t ≡ s → ⊥) → place_at numbers₂ t ≡ fallen (place l position) (place l span) (place_at numbers t)
    place_fallen t less other =
        get_or-set_other (fall n (place l position) (place l span) numbers₁) (places + s) (places + t) (place l (count - 1)) 0 (λ e. other (omega arith))
        ∙ fall_at (place l position) (place l span) n numbers₁ t less fall_fits
        ∙ ap (fallen (place l position) (place l span)) (place_same t (small_slot t less))

    layer_of_last : layer_of (place l (count - 1)) ≡ l
    layer_of_last = omega (arith, l_fits, count_fits.1)

    position_of_last : position_of (place l (count - 1)) ≡ count - 1
    position_of_last = omega (arith, count_fits.1)

    position_fits : position < 2048
    position_fits = omega arith

    -- what is shown of the slot and of the others holds of all
    by_slot : (P : ℕ → Type 0) → P s → ((t : ℕ) → t < n → (t ≡ s → ⊥) → P t) → (t : ℕ) → t < n → P t
    by_slot P here others t less = go (eqb t s) refl
      where
        go : (b : Bool) → eqb t s ≡ b → P t
        go true e = subst P (sym (eqb-true t s e)) here
        go false e = others t less (eqb-false t s e)

    known₂ : (t : ℕ) → t < n → place_at numbers₂ t < h.layers * span
    known₂ =
        by_slot (λ t. place_at numbers₂ t < h.layers * span)
        (rw place_last (omega (arith, l_inside, count_fits.1)))
        (λ t less other. rw (place_fallen t less other)
        (omega (arith, wf.layers_known t less, fallen_bound l position (place_at numbers t) l_fits position_fits (place_fits h words numbers wf t less))))

    fit₂ : (t : ℕ) → t < n → position_of (place_at numbers₂ t) < count_at numbers (layer_of (place_at numbers₂ t))
    fit₂ =
        by_slot (λ t. position_of (place_at numbers₂ t) < count_at numbers (layer_of (place_at numbers₂ t)))
        (rw (place_last, layer_of_last, position_of_last) (omega (arith, count_fits.0, counted)))
        (λ t less other. rw (place_fallen t less other, fallen_layer l position (place_at numbers t) l_fits position_fits (place_fits h words numbers wf t less))
        (omega (arith, wf.positions_fit t less, smaller (position_of (place_at numbers t)) (later l position (place_at numbers t)), fallen_position l position (place_at numbers t) l_fits position_fits (place_fits h words numbers wf t less))))
      where
        smaller : (x : ℕ) (b : Bool) → x - cond b 1 0 ≤ x
        smaller x b = omega arith

    -- the slot's own place is no other slot's
    apart : (t : ℕ) → t < n → (t ≡ s → ⊥) → place_at numbers t ≡ place_at numbers s → ⊥
    apart t less other e = ⊎_elim (λ below. wf.places_once t s below inside e) (λ above. wf.places_once s t above less (sym e)) (ne_lt t s other)
      where
        ne_lt : (x y : ℕ) → (x ≡ y → ⊥) → (x < y) ⊎ (y < x)
        ne_lt x y ne = go (ltb x y) refl
          where
            go : (b : Bool) → ltb x y ≡ b → (x < y) ⊎ (y < x)
            go true u = inl (ltb-true x y u)
            go false u = inr (⊎_elim (λ e. absurd (ne (sym e))) (λ less. less) (eq-or-lt_of_le (ltb-false x y u)))

    s_place : place_at numbers s ≡ place l position
    s_place = omega (arith, place_fits h words numbers wf s inside)

    -- the last place is no fallen one
    last_apart : (t : ℕ) → t < n → (t ≡ s → ⊥) → fallen (place l position) (place l span) (place_at numbers t) ≡ place l (count - 1) → ⊥
    last_apart t less other e = go (later l position (place_at numbers t)) refl
      where
        p : ℕ
        p = place_at numbers t

        p_fits : place_at numbers t < 65536
        p_fits = place_fits h words numbers wf t less

        in_l : l ≡ layer_of (place_at numbers t)
        in_l = sym (sym (fallen_layer l position (place_at numbers t) l_fits position_fits p_fits) ∙ ap layer_of e ∙ layer_of_last)

        at_last : position_of (place_at numbers t) - cond (later l position (place_at numbers t)) 1 0 ≡ count - 1
        at_last = sym (fallen_position l position (place_at numbers t) l_fits position_fits p_fits) ∙ ap position_of e ∙ position_of_last

        below : position_of (place_at numbers t) < count
        below = subst (λ (c : ℕ). position_of (place_at numbers t) < c) (sym counted) (subst (λ (k : ℕ). position_of (place_at numbers t) < count_at numbers k) (sym in_l) (wf.positions_fit t less))

        go : (b : Bool) → later l position (place_at numbers t) ≡ b → ⊥
        go true u = above (is_later l position (place_at numbers t) u).1 (rw u at at_last) below
          where
            above : position < position_of (place_at numbers t) → position_of (place_at numbers t) - 1 ≡ count - 1 → position_of (place_at numbers t) < count → ⊥
            above x y z = omega (arith, count_fits.0)
        go false u = apart t less other (equal (not_later l position (place_at numbers t) in_l u) (rw u at at_last))
          where
            equal : position_of (place_at numbers t) ≤ position → position_of (place_at numbers t) - 0 ≡ count - 1 → place_at numbers t ≡ place_at numbers s
            equal x y =
                place_whole l position (place_at numbers t) l_fits position_fits p_fits
                ∙ ap (λ (k : ℕ). place k (position_of (place_at numbers t))) (sym in_l) ∙ ap (place l) (same_position x y) ∙ sym s_place
              where
                same_position : position_of (place_at numbers t) ≤ position → position_of (place_at numbers t) - 0 ≡ count - 1 → position_of (place_at numbers t) ≡ position
                same_position x y = omega (arith, count_fits.0)

    -- two that fall to one place were at one place
    fallen_apart : (t u : ℕ) → t < n → u < n → (t ≡ s → ⊥) → (u ≡ s → ⊥) → fallen (place l position) (place l span) (place_at numbers t) ≡ fallen (place l position) (place l span) (place_at numbers u) → place_at numbers t ≡ place_at numbers u
    fallen_apart t u less less' other other' e = go (later l position (place_at numbers t)) refl (later l position (place_at numbers u)) refl
      where
        t_fits : place_at numbers t < 65536
        t_fits = place_fits h words numbers wf t less

        u_fits : place_at numbers u < 65536
        u_fits = place_fits h words numbers wf u less'

        same_layers : layer_of (place_at numbers t) ≡ layer_of (place_at numbers u)
        same_layers = sym (fallen_layer l position (place_at numbers t) l_fits position_fits t_fits) ∙ ap layer_of e ∙ fallen_layer l position (place_at numbers u) l_fits position_fits u_fits

        same_falls : position_of (place_at numbers t) - cond (later l position (place_at numbers t)) 1 0 ≡ position_of (place_at numbers u) - cond (later l position (place_at numbers u)) 1 0
        same_falls = sym (fallen_position l position (place_at numbers t) l_fits position_fits t_fits) ∙ ap position_of e ∙ fallen_position l position (place_at numbers u) l_fits position_fits u_fits

        by_positions : position_of (place_at numbers t) ≡ position_of (place_at numbers u) → place_at numbers t ≡ place_at numbers u
        by_positions x =
            place_whole l position (place_at numbers t) l_fits position_fits t_fits
            ∙ ap (λ (k : ℕ). place k (position_of (place_at numbers t))) same_layers ∙ ap (place (layer_of (place_at numbers u))) x ∙ sym (place_whole l position (place_at numbers u) l_fits position_fits u_fits)

        -- one that does not fall would be at the slot's own place
        at_own : (v : ℕ) → v < n → (v ≡ s → ⊥) → l ≡ layer_of (place_at numbers v) → position_of (place_at numbers v) ≡ position → ⊥
        at_own v below ne in_l x =
            apart v below ne
            (place_whole l position (place_at numbers v) l_fits position_fits (place_fits h words numbers wf v below)
            ∙ ap (λ (k : ℕ). place k (position_of (place_at numbers v))) (sym in_l) ∙ ap (place l) x ∙ sym s_place)

        meet : (x y : ℕ) → position < x → y ≤ position → x - 1 ≡ y - 0 → y ≡ position
        meet x y a b c = omega arith

        go : (a : Bool) → later l position (place_at numbers t) ≡ a → (b : Bool) → later l position (place_at numbers u) ≡ b → place_at numbers t ≡ place_at numbers u
        go true a true b = by_positions (both _ _ (is_later l position (place_at numbers t) a).1 (is_later l position (place_at numbers u) b).1 (rw (a, b) at same_falls))
          where
            both : (x y : ℕ) → position < x → position < y → x - 1 ≡ y - 1 → x ≡ y
            both x y f g k = omega arith
        go false a false b = by_positions (neither _ _ (rw (a, b) at same_falls))
          where
            neither : (x y : ℕ) → x - 0 ≡ y - 0 → x ≡ y
            neither x y k = omega arith
        go true a false b =
            let in_u : l ≡ layer_of (place_at numbers u) = (is_later l position (place_at numbers t) a).0 ∙ same_layers in
            absurd (at_own u less' other' in_u (meet _ _ (is_later l position (place_at numbers t) a).1 (not_later l position (place_at numbers u) in_u b) (rw (a, b) at same_falls)))
        go false a true b =
            let in_t : l ≡ layer_of (place_at numbers t) = (is_later l position (place_at numbers u) b).0 ∙ sym same_layers in
            absurd (at_own t less other in_t (meet _ _ (is_later l position (place_at numbers u) b).1 (not_later l position (place_at numbers t) in_t a) (sym (rw (a, b) at same_falls))))

    once₂ : (t u : ℕ) → t < u → u < n → place_at numbers₂ t ≡ place_at numbers₂ u → ⊥
    once₂ t u order less e = go (eqb t s) refl (eqb u s) refl
      where
        t_less : t < n
        t_less = omega arith

        apart_slots : t ≡ s → u ≡ s → ⊥
        apart_slots x y = omega arith

        go : (a : Bool) → eqb t s ≡ a → (b : Bool) → eqb u s ≡ b → ⊥
        go true a true b = apart_slots (eqb-true t s a) (eqb-true u s b)
        go true a false b = last_apart u less (eqb-false u s b) (sym (place_fallen u less (eqb-false u s b)) ∙ sym e ∙ ap (place_at numbers₂) (eqb-true t s a) ∙ place_last)
        go false a true b = last_apart t t_less (eqb-false t s a) (sym (place_fallen t t_less (eqb-false t s a)) ∙ e ∙ ap (place_at numbers₂) (eqb-true u s b) ∙ place_last)
        go false a false b =
            wf.places_once t u order less
            (fallen_apart t u t_less less (eqb-false t s a) (eqb-false u s b) (sym (place_fallen t t_less (eqb-false t s a)) ∙ e ∙ place_fallen u less (eqb-false u s b)))

    taken₂ : (k p : ℕ) → k < h.layers → p < count_at numbers k → (t : ℕ) × ((t < n) × (place_at numbers₂ t ≡ place k p))
    taken₂ k p less below = go (eqb k l) refl (eqb p (count - 1)) refl (ltb p position) refl
      where
        Found : Type 0
        Found = (t : ℕ) × ((t < n) × (place_at numbers₂ t ≡ place k p))

        -- the slot that was at (k, p'), which is not the slot's own place, and where it is now
        was_at : (p' : ℕ) → p' < count_at numbers k → (place k p' ≡ place l position → ⊥) → fallen (place l position) (place l span) (place k p') ≡ place k p → Found
        was_at p' less' other lands = (
          (wf.places_taken k p' less less').0,
          (
            (wf.places_taken k p' less less').1.0,
            place_fallen _ (wf.places_taken k p' less less').1.0 (λ e. other (sym (wf.places_taken k p' less less').1.1 ∙ ap (place_at numbers) e ∙ s_place))
                ∙ ap (fallen (place l position) (place l span)) (wf.places_taken k p' less less').1.1 ∙ lands,
          ),
        )

        k_fits : k < 32
        k_fits = omega (arith, wf.layers_fit)

        p_small : p < 1024
        p_small = omega (arith, wf.counts_fit k less, wf.widgets_fit)

        p_fits : place k p < 65536
        p_fits = omega arith

        k_layer : layer_of (place k p) ≡ k
        k_layer = omega arith

        p_position : position_of (place k p) ≡ p
        p_position = omega arith

        go : (a : Bool) → eqb k l ≡ a → (b : Bool) → eqb p (count - 1) ≡ b → (c : Bool) → ltb p position ≡ c → Found
        go false a b f c g =
            was_at p below (λ e. eqb-false k l a (sym k_layer ∙ ap layer_of e ∙ own_layer)) (fallen_same l position (place k p) l_fits position_fits p_fits (rw (ne_eqb l (layer_of (place k p)) (λ e. eqb-false k l a (sym (e ∙ k_layer))))))
          where
            own_layer : layer_of (place l position) ≡ l
            own_layer = omega (arith, l_fits, position_fits)
        go true a true f c g =
            (s, (inside, place_last ∙ ap (λ (i : ℕ). place i (count - 1)) (sym (eqb-true k l a)) ∙ ap (place k) (sym (eqb-true p (count - 1) f))))
        go true a false f true g =
            was_at p below (λ e. lower (ltb-true p position g) (sym p_position ∙ ap position_of e ∙ own_position))
            (fallen_same l position (place k p) l_fits position_fits p_fits (rw (eq-eqb l (layer_of (place k p)) (sym (eqb-true k l a) ∙ sym k_layer), p_position, le-ltb position p (omega (arith, ltb-true p position g)))))
          where
            own_position : position_of (place l position) ≡ position
            own_position = omega (arith, position_fits)

            lower : p < position → p ≡ position → ⊥
            lower x y = omega arith
        go true a false f false g =
            was_at (p + 1) (subst (λ (i : ℕ). p + 1 < i) (count_there (eqb-true k l a)) next) (λ e. higher (ltb-false p position g) (sym next_position ∙ ap position_of e ∙ own_position))
            (fallen_less l position (place k (p + 1)) l_fits position_fits next_fits (sym (eqb-true k l a) ∙ sym next_layer) (subst (λ (i : ℕ). position < i) (sym next_position) (omega (arith, ltb-false p position g))) ∙ back)
          where
            count_there : k ≡ l → count ≡ count_at numbers k
            count_there x = counted ∙ ap (count_at numbers) (sym x)

            next : p + 1 < count
            next = omega (arith, eqb-false p (count - 1) f, subst (λ (i : ℕ). p < i) (sym (count_there (eqb-true k l a))) below)

            next_fits : place k (p + 1) < 65536
            next_fits = omega arith

            next_layer : layer_of (place k (p + 1)) ≡ k
            next_layer = omega arith

            next_position : position_of (place k (p + 1)) ≡ p + 1
            next_position = omega arith

            own_position : position_of (place l position) ≡ position
            own_position = omega (arith, position_fits)

            higher : position ≤ p → p + 1 ≡ position → ⊥
            higher x y = omega arith

            back : place k (p + 1) - 1 ≡ place k p
            back = omega arith

    pub well_formed_move : Indexed h words numbers₂
    well_formed_move = well_formed_update h words numbers numbers₂ wf low₂ high₂ known₂ fit₂ once₂ taken₂

    pub by_layer_moved : (view h words numbers₂ edges₁).by_layer ≡ (view h words numbers edges).by_layer
    by_layer_moved = layers_view numbers₂ edges₁ high₂

    -- the model tells layers by their ids, and the places by their numbers
    layer_number : (t : ℕ) → t < n → same_layer (layer_at words numbers l) (layer_at words numbers (layer_of (place_at numbers t))) ≡ eqb l (layer_of (place_at numbers t))
    layer_number t less = go (eqb l (layer_of (place_at numbers t))) refl
      where
        go : (b : Bool) → eqb l (layer_of (place_at numbers t)) ≡ b → same_layer (layer_at words numbers l) (layer_at words numbers (layer_of (place_at numbers t))) ≡ eqb l (layer_of (place_at numbers t))
        go true e = rw e (ap (λ (k : ℕ). same_layer (layer_at words numbers l) (layer_at words numbers k)) (sym (eqb-true l (layer_of (place_at numbers t)) e)) ∙ same_layer_refl (layer_at words numbers l))
        go false e = rw e (not_so _ (λ yes. eqb-false l (layer_of (place_at numbers t)) e (layers_differ h words numbers wf l (layer_of (place_at numbers t)) l_inside (layer_inside h words numbers wf t less) yes)))

    fallen_known : (t : ℕ) → t < n → (t ≡ s → ⊥) → known_at words numbers₂ edges₁ t ≡ M.fall new.layer_id position (known_at words numbers edges t)
    unfolding M.fall updated
    fallen_known t less other =
        known_parts _ _ _ _
        (ap position_of (place_fallen t less other)
        ∙ fallen_position l position (place_at numbers t) l_fits position_fits (place_fits h words numbers wf t less)
        ∙ ap (λ (b : Bool). position_of (place_at numbers t) - cond (b && ltb position (position_of (place_at numbers t))) 1 0) (sym (layer_number t less)))
        (kept_widget numbers₂ traits_there layer_there t (small_slot t less) other
        (ap layer_of (place_fallen t less other) ∙ fallen_layer l position (place_at numbers t) l_fits position_fits (place_fits h words numbers wf t less)))

    fall_id : (k : ℕ) → (M.fall new.layer_id position (known_at words numbers edges k)).widget.id ≡ id_at words k
    unfolding M.fall
    fall_id k = refl

    pub by_id_moved : (view h words numbers₂ edges₁).by_id ≡ with_known w.id (record { position = count - 1; widget = new }) (map (M.fall new.layer_id position) (view h words numbers edges).by_id)
    unfolding view
    by_id_moved =
        rw (unclamped max_widgets n wf.widgets_fit)
        (firsts_cong (known_at words numbers₂ edges₁) (but s (record { position = count - 1; widget = new }) (λ t. M.fall new.layer_id position (known_at words numbers edges t))) n
        (by_slot (λ t. known_at words numbers₂ edges₁ t ≡ but s (record { position = count - 1; widget = new }) (λ i. M.fall new.layer_id position (known_at words numbers edges i)) t)
        (rw (eq-eqb s s refl)
        (known_parts _ _ _ _ (ap position_of place_last ∙ position_of_last) (new_widget numbers₂ traits_there layer_there (ap layer_of place_last ∙ layer_of_last))))
        (λ t less other. rw (ne_eqb t s other) (fallen_known t less other)))
        ∙ sym (entries (λ t. M.fall new.layer_id position (known_at words numbers edges t)) fall_id (record { position = count - 1; widget = new }))
        ∙ ap (with_known w.id (record { position = count - 1; widget = new })) (sym (map_firsts (M.fall new.layer_id position) (known_at words numbers edges) n)))
