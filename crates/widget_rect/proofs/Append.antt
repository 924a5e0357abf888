-- A new widget in a well-formed set: each number after the stores, and that the set stays well-formed. Assumes nothing.
use mathlib.Core.Path.{◌≡◌, refl, sym, ◌∙◌, ap, subst}
use Prim.Native.Nat.{ℕ, suc, ◌+◌, ◌-◌, ◌*◌, ◌<◌, ◌≤◌, ◌%◌}
use native.Mathlib.Omega.{arith}
use native.Mathlib.Nat.{eq-or-lt_of_le, le_refl}
use native.Mathlib.Numerals.{add-one}
use mathlib.Core.Bool.{Bool, true, false, cond}
use mathlib.Core.Logic.{⊎_elim}
use mathlib.Core.List.{List, [], ◌∷◌}
use lib.Dec.{eqb, leb}
use lib.ListN.{length, get_or}
use borrow.Author.Tests.{eq-eqb, ne_eqb, eqb-true, eqb-false, leb-true, leb-false, le-leb, lt-ltb, le-ltb}
use Rattle.data.specs.Limits.{max_widgets, max_layers}
use Rattle.data.specs.declared.layers.LayerId.{LayerId}
use Rattle.data.specs.declared.widget.WidgetRect.{WidgetRect}
use Rattle.model.specs.Widgets.{same_layer}
use Rattle.widget_index.specs.declared.table.WidgetRects.{WidgetRects}
use Rattle.widget_index.specs.Layout.{parents, layer_ids, links, places, traits, orders, counts, span, id_at, parent_at, link_at, place_at, layer_of, position_of, place, count_at, packed}
use Rattle.widget_index.specs.Table.{last, widgets_of, layer_at, bucket, head, find, find_layer}
use Rattle.widget_append.specs.Append.{appended_words, appended_numbers, layers_after}
use Rattle.widget_rect.specs.WellFormed.{Indexed}
use Rattle.widget_rect.proofs.Lists.{kept, stored, last_here, last_before, last_le, last_cong}
use Rattle.widget_rect.proofs.Index.{unclamped, same_layer_is, finds_id}

-- the layer's number and count that a new widget of the layer is given
pub record Home (h : WidgetRects) (words numbers : List ℕ) (layer : LayerId) (l count : ℕ) : Type 0 where
  pub fits : l < max_layers
  pub within : l ≤ h.layers
  pub small : count ≤ h.widgets
  pub counted : l < h.layers → count ≡ count_at numbers l
  pub same : l < h.layers → same_layer layer (layer_at words numbers l) ≡ true
  pub fresh : l ≡ h.layers → find_layer words numbers layer h.layers ≡ 0
  pub none_counted : l ≡ h.layers → count ≡ 0

module _ (h : WidgetRects) (words numbers : List ℕ) (w : WidgetRect) (l count : ℕ) (wf : Indexed h words numbers) (lw : length words ≡ 2080) (ln : length numbers ≡ 5184)
    (room : h.widgets < max_widgets) (unknown : find h words numbers w.id ≡ 0) (home : Home h words numbers w.layer_id l count) where
  abbrev n : ℕ
  n = h.widgets

  abbrev e : ℕ
  e = head h words numbers w.id

  abbrev ws : List (ℕ × ℕ)
  ws = (n, w.id) ∷ (parents + n, w.parent_id) ∷ (layer_ids + l, w.layer_id.id) ∷ []

  abbrev ns : List (ℕ × ℕ)
  ns = (links + n, e) ∷ (bucket w.id, n + 1) ∷ (places + n, place l count) ∷ (orders + l, w.layer_id.order) ∷ (counts + l, count + 1)
      ∷ (traits + n, packed w.sense w.enabled w.visible) ∷ []

  abbrev words' : List ℕ
  words' = appended_words n l w words

  abbrev numbers' : List ℕ
  numbers' = appended_numbers n l count e w numbers

  abbrev h' : WidgetRects
  h' = record { widgets = n + 1; layers = layers_after h.layers l }

  home_fits : l < 32
  home_fits = home.fits

  -- ---- words
  pub id_kept : (s : ℕ) → s < n → id_at words' s ≡ id_at words s
  id_kept s less = kept 0 words ws s (λ i. omega arith, (λ i. omega arith, (λ i. omega (arith, home_fits), tt)))

  pub id_new : id_at words' n ≡ w.id
  id_new = stored 0 words [] n w.id ((parents + n, w.parent_id) ∷ (layer_ids + l, w.layer_id.id) ∷ []) (omega (arith, lw)) (λ i. omega arith, (λ i. omega arith, tt))

  pub parent_kept : (s : ℕ) → s < n → parent_at words' s ≡ parent_at words s
  parent_kept s less = kept 0 words ws (parents + s) (λ i. omega arith, (λ i. omega arith, (λ i. omega arith, tt)))

  pub parent_new : parent_at words' n ≡ w.parent_id
  parent_new = stored 0 words ((n, w.id) ∷ []) (parents + n) w.parent_id ((layer_ids + l, w.layer_id.id) ∷ []) (omega (arith, lw)) (λ i. omega arith, tt)

  layer_id_kept : (k : ℕ) → (k ≡ l → ⊥) → get_or words' (layer_ids + k) 0 ≡ get_or words (layer_ids + k) 0
  layer_id_kept k other = kept 0 words ws (layer_ids + k) (λ i. omega arith, (λ i. omega arith, (λ i. other (omega arith), tt)))

  layer_id_new : get_or words' (layer_ids + l) 0 ≡ w.layer_id.id
  layer_id_new = stored 0 words ((n, w.id) ∷ (parents + n, w.parent_id) ∷ []) (layer_ids + l) w.layer_id.id [] (omega (arith, lw, home_fits)) tt

  -- ---- numbers
  head_kept : (b : ℕ) → b < 2048 → (b ≡ bucket w.id → ⊥) → get_or numbers' b 0 ≡ get_or numbers b 0
  head_kept b less other = kept 0 numbers ns b (λ i. omega arith, (other, (λ i. omega arith, (λ i. omega arith, (λ i. omega arith, (λ i. omega arith, tt))))))

  head_new : get_or numbers' (bucket w.id) 0 ≡ n + 1
  head_new =
      stored 0 numbers ((links + n, e) ∷ []) (bucket w.id) (n + 1)
      ((places + n, place l count) ∷ (orders + l, w.layer_id.order) ∷ (counts + l, count + 1) ∷ (traits + n, packed w.sense w.enabled w.visible) ∷ [])
      (omega (arith, ln)) (λ i. omega arith, (λ i. omega arith, (λ i. omega arith, (λ i. omega arith, tt))))

  link_kept : (s : ℕ) → s < n → get_or numbers' (links + s) 0 ≡ get_or numbers (links + s) 0
  link_kept s less = kept 0 numbers ns (links + s) (λ i. omega arith, (λ i. omega arith, (λ i. omega arith, (λ i. omega arith, (λ i. omega arith, (λ i. omega arith, tt))))))

  link_new : get_or numbers' (links + n) 0 ≡ e
  link_new =
      stored 0 numbers [] (links + n) e
      ((bucket w.id, n + 1) ∷ (places + n, place l count) ∷ (orders + l, w.layer_id.order) ∷ (counts + l, count + 1) ∷ (traits + n, packed w.sense w.enabled w.visible) ∷ [])
      (omega (arith, ln)) (λ i. omega arith, (λ i. omega arith, (λ i. omega arith, (λ i. omega arith, (λ i. omega arith, tt)))))

  pub place_kept : (s : ℕ) → s < n → place_at numbers' s ≡ place_at numbers s
  place_kept s less = kept 0 numbers ns (places + s) (λ i. omega arith, (λ i. omega arith, (λ i. omega arith, (λ i. omega arith, (λ i. omega arith, (λ i. omega arith, tt))))))

  pub place_new : place_at numbers' n ≡ place l count
  place_new =
      stored 0 numbers ((links + n, e) ∷ (bucket w.id, n + 1) ∷ []) (places + n) (place l count)
      ((orders + l, w.layer_id.order) ∷ (counts + l, count + 1) ∷ (traits + n, packed w.sense w.enabled w.visible) ∷ [])
      (omega (arith, ln)) (λ i. omega arith, (λ i. omega arith, (λ i. omega arith, tt)))

  pub trait_kept : (s : ℕ) → s < n → get_or numbers' (traits + s) 0 ≡ get_or numbers (traits + s) 0
  trait_kept s less = kept 0 numbers ns (traits + s) (λ i. omega arith, (λ i. omega arith, (λ i. omega arith, (λ i. omega arith, (λ i. omega arith, (λ i. omega arith, tt))))))

  pub trait_new : get_or numbers' (traits + n) 0 ≡ packed w.sense w.enabled w.visible
  trait_new =
      stored 0 numbers ((links + n, e) ∷ (bucket w.id, n + 1) ∷ (places + n, place l count) ∷ (orders + l, w.layer_id.order) ∷ (counts + l, count + 1) ∷ [])
      (traits + n) (packed w.sense w.enabled w.visible) [] (omega (arith, ln)) tt

  order_kept : (k : ℕ) → k < 32 → (k ≡ l → ⊥) → get_or numbers' (orders + k) 0 ≡ get_or numbers (orders + k) 0
  order_kept k less other = kept 0 numbers ns (orders + k) (λ i. omega arith, (λ i. omega arith, (λ i. omega arith, (λ i. other (omega arith), (λ i. omega arith, (λ i. omega arith, tt))))))

  order_new : get_or numbers' (orders + l) 0 ≡ w.layer_id.order
  order_new =
      stored 0 numbers ((links + n, e) ∷ (bucket w.id, n + 1) ∷ (places + n, place l count) ∷ []) (orders + l) w.layer_id.order
      ((counts + l, count + 1) ∷ (traits + n, packed w.sense w.enabled w.visible) ∷ []) (omega (arith, ln, home_fits)) (λ i. omega (arith, home_fits), (λ i. omega arith, tt))

  pub count_kept : (k : ℕ) → k < 32 → (k ≡ l → ⊥) → get_or numbers' (counts + k) 0 ≡ get_or numbers (counts + k) 0
  count_kept k less other = kept 0 numbers ns (counts + k) (λ i. omega arith, (λ i. omega arith, (λ i. omega arith, (λ i. omega (arith, home_fits), (λ i. other (omega arith), (λ i. omega arith, tt))))))

  pub count_new : get_or numbers' (counts + l) 0 ≡ count + 1
  count_new =
      stored 0 numbers ((links + n, e) ∷ (bucket w.id, n + 1) ∷ (places + n, place l count) ∷ (orders + l, w.layer_id.order) ∷ []) (counts + l) (count + 1)
      ((traits + n, packed w.sense w.enabled w.visible) ∷ []) (omega (arith, ln, home_fits)) (λ i. omega arith, tt)

  -- ---- layers
  layer_parts : (o p i j : ℕ) → o ≡ p → i ≡ j → ◌≡◌ {A = LayerId} (record { order = o; id = i }) (record { order = p; id = j })
  layer_parts o p i j f g = rw (f, g)

  pub layer_new : layer_at words' numbers' l ≡ w.layer_id
  layer_new = layer_parts _ _ _ _ order_new layer_id_new

  layers_bound : h.layers ≤ 32
  layers_bound = wf.layers_fit

  pub layer_kept : (k : ℕ) → k < h.layers → layer_at words' numbers' k ≡ layer_at words numbers k
  layer_kept k less = go (eqb k l) refl
    where
      go : (b : Bool) → eqb k l ≡ b → layer_at words' numbers' k ≡ layer_at words numbers k
      go true t =
          let here : k ≡ l = eqb-true k l t in
          let inside : l < h.layers = omega arith in
          rw here (layer_new ∙ same_layer_is w.layer_id (layer_at words numbers l) (home.same inside))
      go false t = layer_parts _ _ _ _ (order_kept k (omega (arith, layers_bound)) (eqb-false k l t)) (layer_id_kept k (eqb-false k l t))

  pub layers_are : (l < h.layers → h'.layers ≡ h.layers) × (l ≡ h.layers → h'.layers ≡ h.layers + 1)
  unfolding layers_after
  layers_are = (λ less. rw (lt-ltb _ _ less), λ last_one. rw (le-ltb l h.layers (omega arith)) (omega arith))

  -- what is shown of the layers known before, and of l, holds of all now
  each_layer : (P : ℕ → Type 0) → ((k : ℕ) → k < h.layers → P k) → (l ≡ h.layers → P l) → (k : ℕ) → k < h'.layers → P k
  each_layer P before new k less = ⊎_elim fresh_layer known_layer (eq-or-lt_of_le home.within)
    where
      known_layer : l < h.layers → P k
      known_layer inside = before k (subst (λ (m : ℕ). k < m) (layers_are.0 inside) less)

      fresh_layer : l ≡ h.layers → P k
      fresh_layer last_one =
          ⊎_elim (λ here. subst P (sym (here ∙ sym last_one)) (new last_one)) (λ below. before k below) (eq-or-lt_of_le (at_most (subst (λ (m : ℕ). k < m) (layers_are.1 last_one) less)))
        where
          at_most : k < h.layers + 1 → k ≤ h.layers
          at_most x = omega arith

  -- the same of slots
  each_slot : (P : ℕ → Type 0) → ((s : ℕ) → s < n → P s) → P n → (s : ℕ) → s < n + 1 → P s
  each_slot P before new s less = ⊎_elim (λ here. subst P (sym here) new) (λ below. before s below) (eq-or-lt_of_le (at_most less))
    where
      at_most : s < n + 1 → s ≤ n
      at_most x = omega arith

  -- ---- well-formed again
  all_slots : widgets_of h' ≡ n + 1
  all_slots = unclamped 1024 (n + 1) (omega arith)

  below_h' : n + 1 ≡ suc n
  below_h' = add-one n

  -- one bucket's head, whatever number stands there
  module _ (d : ℕ) where
    abbrev p : ℕ → Bool
    p s = eqb (bucket d) (bucket (id_at words s))

    abbrev p' : ℕ → Bool
    p' s = eqb (bucket d) (bucket (id_at words' s))

    abbrev resolved : WidgetRects → List ℕ → ℕ → ℕ
    resolved g ids x = cond (eqb x 0) 0 (cond (leb x (widgets_of g)) (cond (eqb (bucket (id_at ids (x - 1))) (bucket d)) x 0) 0)

    below : last p' n ≡ last p n
    below = last_cong p' p n (λ k less. ap (λ (i : ℕ). eqb (bucket d) (bucket i)) (id_kept k less))

    at_n : p' n ≡ eqb (bucket d) (bucket w.id)
    at_n = ap (λ (i : ℕ). eqb (bucket d) (bucket i)) id_new

    old_slots : widgets_of h ≡ n
    old_slots = unclamped 1024 n wf.widgets_fit

    resolves_new : bucket d ≡ bucket w.id → resolved h' words' (n + 1) ≡ n + 1
    resolves_new b =
        let back : n + 1 - 1 ≡ n = omega arith in
        let some_slot : n + 1 ≡ 0 → ⊥ = λ z. omega arith in
        rw (ne_eqb (n + 1) 0 some_slot, all_slots, le-leb (n + 1) (n + 1) (le_refl (n + 1)), back, id_new, eq-eqb (bucket w.id) (bucket d) (sym b))

    resolves_old : (bucket d ≡ bucket w.id → ⊥) → (x : ℕ) → resolved h' words' x ≡ resolved h words x
    resolves_old other x = go (eqb x 0) refl (leb x n) refl (leb x (n + 1)) refl
      where
        go : (a : Bool) → eqb x 0 ≡ a → (b : Bool) → leb x n ≡ b → (c : Bool) → leb x (n + 1) ≡ c → resolved h' words' x ≡ resolved h words x
        go true z b f c g = rw z
        go false z true f true g =
            let less : x - 1 < n = omega (arith, leb-true x n f, eqb-false x 0 z) in
            rw (z, all_slots, old_slots, f, g, id_kept (x - 1) less)
        go false z true f false g = absurd (never (leb-true x n f) (leb-false x (n + 1) g))
          where
            never : x ≤ n → n + 1 < x → ⊥
            never y y' = omega arith
        go false z false f true g =
            let last_slot : x - 1 ≡ n = omega (arith, leb-false x n f, leb-true x (n + 1) g) in
            rw (z, all_slots, old_slots, f, g, last_slot, id_new, ne_eqb (bucket w.id) (bucket d) (λ y. other (sym y)))
        go false z false f false g = rw (z, all_slots, old_slots, f, g)

    pub heads' : head h' words' numbers' d ≡ last p' (n + 1)
    unfolding head
    heads' = go (eqb (bucket d) (bucket w.id)) refl
      where
        go : (b : Bool) → eqb (bucket d) (bucket w.id) ≡ b → head h' words' numbers' d ≡ last p' (n + 1)
        go true t =
            ap (λ (x : ℕ). resolved h' words' x) (ap (λ (b : ℕ). get_or numbers' b 0) (eqb-true (bucket d) (bucket w.id) t) ∙ head_new)
            ∙ resolves_new (eqb-true (bucket d) (bucket w.id) t)
            ∙ add-one n ∙ sym (last_here p' n (at_n ∙ t)) ∙ ap (last p') (sym (add-one n))
        go false t =
            ap (λ (x : ℕ). resolved h' words' x) (head_kept (bucket d) (omega arith) (eqb-false (bucket d) (bucket w.id) t))
            ∙ resolves_old (eqb-false (bucket d) (bucket w.id) t) (get_or numbers (bucket d) 0)
            ∙ wf.heads d ∙ sym below ∙ sym (last_before p' n (at_n ∙ t)) ∙ ap (last p') (sym (add-one n))

  -- ---- the other facts

  same_below : (s : ℕ) → s ≤ n → (i i' : ℕ) → i ≡ i' → last (λ t. eqb (bucket i) (bucket (id_at words' t))) s ≡ last (λ t. eqb (bucket i') (bucket (id_at words t))) s
  same_below s less i i' e =
      last_cong (λ t. eqb (bucket i) (bucket (id_at words' t))) (λ t. eqb (bucket i') (bucket (id_at words t))) s (λ k below. rw (id_kept k (omega arith), e))

  links_lead' : (s : ℕ) → s < n + 1 → link_at numbers' s ≡ last (λ t. eqb (bucket (id_at words' s)) (bucket (id_at words' t))) s
  unfolding link_at
  links_lead' =
      each_slot (λ s. link_at numbers' s ≡ last (λ t. eqb (bucket (id_at words' s)) (bucket (id_at words' t))) s)
      (λ s less. rw (link_kept s less) (wf.links_lead s less ∙ sym (same_below s (omega arith) _ _ (id_kept s less))))
      (rw (link_new, le-leb e n fits) (wf.heads w.id ∙ sym (same_below n (le_refl n) _ _ id_new)))
    where
      fits : e ≤ n
      fits = subst (λ (x : ℕ). x ≤ n) (sym (wf.heads w.id)) (last_le (λ s. eqb (bucket w.id) (bucket (id_at words s))) n)

  ids_below : (s : ℕ) → s ≤ n → (i i' : ℕ) → i ≡ i' → last (λ t. eqb i (id_at words' t)) s ≡ last (λ t. eqb i' (id_at words t)) s
  ids_below s less i i' e = last_cong (λ t. eqb i (id_at words' t)) (λ t. eqb i' (id_at words t)) s (λ k below. rw (id_kept k (omega arith), e))

  ids_once' : (s : ℕ) → s < n + 1 → last (λ t. eqb (id_at words' s) (id_at words' t)) s ≡ 0
  ids_once' =
      each_slot (λ s. last (λ t. eqb (id_at words' s) (id_at words' t)) s ≡ 0)
      (λ s less. ids_below s (omega arith) _ _ (id_kept s less) ∙ wf.ids_once s less)
      (ids_below n (le_refl n) _ _ id_new ∙ sym (finds_id h words numbers wf w.id) ∙ unknown)

  layers_below : (m : ℕ) → m ≤ h.layers → (i i' : LayerId) → i ≡ i' → find_layer words' numbers' i m ≡ find_layer words numbers i' m
  unfolding find_layer
  layers_below m less i i' e =
      last_cong (λ t. same_layer i (layer_at words' numbers' t)) (λ t. same_layer i' (layer_at words numbers t)) m (λ k below. rw (layer_kept k (omega arith), e))

  layers_once' : (k : ℕ) → k < h'.layers → find_layer words' numbers' (layer_at words' numbers' k) k ≡ 0
  layers_once' =
      each_layer (λ k. find_layer words' numbers' (layer_at words' numbers' k) k ≡ 0)
      (λ k less. layers_below k (omega arith) _ _ (layer_kept k less) ∙ wf.layers_once k less)
      (λ last_one. layers_below l home.within _ _ layer_new ∙ ap (find_layer words numbers w.layer_id) last_one ∙ home.fresh last_one)

  counts_fit' : (k : ℕ) → k < h'.layers → get_or numbers' (counts + k) 0 ≤ n + 1
  counts_fit' = each_layer (λ k. get_or numbers' (counts + k) 0 ≤ n + 1) old (λ last_one. at_l)
    where
      at_l : get_or numbers' (counts + l) 0 ≤ n + 1
      at_l = rw count_new (omega (arith, home.small))

      old : (k : ℕ) → k < h.layers → get_or numbers' (counts + k) 0 ≤ n + 1
      old k less = go (eqb k l) refl
        where
          go : (b : Bool) → eqb k l ≡ b → get_or numbers' (counts + k) 0 ≤ n + 1
          go true t = subst (λ (i : ℕ). get_or numbers' (counts + i) 0 ≤ n + 1) (sym (eqb-true k l t)) at_l
          go false t = rw (count_kept k (omega (arith, layers_bound)) (eqb-false k l t)) (omega (arith, wf.counts_fit k less))

  more_layers : (h.layers ≤ h'.layers) × (l < h'.layers)
  more_layers = ⊎_elim (λ last_one. rw (layers_are.1 last_one) (omega arith, omega arith)) (λ inside. rw (layers_are.0 inside) (omega arith, inside)) (eq-or-lt_of_le home.within)

  place_bound : place l count < h'.layers * span
  place_bound = omega (arith, more_layers.1, home.small)

  layers_known' : (s : ℕ) → s < n + 1 → place_at numbers' s < h'.layers * span
  layers_known' =
      each_slot (λ s. place_at numbers' s < h'.layers * span) (λ s less. rw (place_kept s less) (omega (arith, wf.layers_known s less, more_layers.0))) (rw place_new place_bound)

  count_at_new : count_at numbers' l ≡ count + 1
  count_at_new = rw count_new (omega (arith, home.small))

  pub layer_of_new : layer_of (place l count) ≡ l
  layer_of_new = omega (arith, home.small, home_fits)

  pub position_of_new : position_of (place l count) ≡ count
  position_of_new = omega (arith, home.small)

  pub layer_known : (s : ℕ) → s < n → layer_of (place_at numbers s) < h.layers
  layer_known s less = omega (arith, wf.layers_known s less, layers_bound)

  positions_fit' : (s : ℕ) → s < n + 1 → position_of (place_at numbers' s) < count_at numbers' (layer_of (place_at numbers' s))
  positions_fit' =
      each_slot (λ s. position_of (place_at numbers' s) < count_at numbers' (layer_of (place_at numbers' s))) old (rw (place_new, layer_of_new, position_of_new, count_at_new) (omega arith))
    where
      old : (s : ℕ) → s < n → position_of (place_at numbers' s) < count_at numbers' (layer_of (place_at numbers' s))
      old s less = rw (place_kept s less) (go (layer_of (place_at numbers s)) (layer_known s less) (wf.positions_fit s less) (eqb (layer_of (place_at numbers s)) l) refl)
        where
          go : (k : ℕ) → k < h.layers → position_of (place_at numbers s) < count_at numbers k → (b : Bool) → eqb k l ≡ b → position_of (place_at numbers s) < count_at numbers' k
          go k inside fits true t =
              let here : k ≡ l = eqb-true k l t in
              subst (λ (i : ℕ). position_of (place_at numbers s) < count_at numbers' i) (sym here)
              (rw count_at_new (omega (arith, subst (λ (i : ℕ). position_of (place_at numbers s) < count_at numbers i) here fits, home.counted (subst (λ (i : ℕ). i < h.layers) here inside))))
          go k inside fits false t = subst (λ (c : ℕ). position_of (place_at numbers s) < c % span) (sym (count_kept k (omega (arith, layers_bound)) (eqb-false k l t))) fits

  -- the new place is no other's
  new_place : (s : ℕ) → s < n → place_at numbers s ≡ place l count → ⊥
  new_place s less e = ⊎_elim (λ last_one. beyond last_one (layer_known s less) (ap layer_of e ∙ layer_of_new)) (λ inside. above inside) (eq-or-lt_of_le home.within)
    where
      beyond : l ≡ h.layers → layer_of (place_at numbers s) < h.layers → layer_of (place_at numbers s) ≡ l → ⊥
      beyond last_one known same = omega arith

      fits : position_of (place_at numbers s) < count_at numbers (layer_of (place_at numbers s)) → l < h.layers → count < count
      fits below inside =
          subst (λ (c : ℕ). count < c) (sym (home.counted inside))
          (subst (λ (k : ℕ). count < count_at numbers k) (ap layer_of e ∙ layer_of_new) (subst (λ (q : ℕ). q < count_at numbers (layer_of (place_at numbers s))) (ap position_of e ∙ position_of_new) below))

      above : l < h.layers → ⊥
      above inside = never (fits (wf.positions_fit s less) inside)
        where
          never : count < count → ⊥
          never x = omega arith

  places_once' : (s t : ℕ) → s < t → t < n + 1 → place_at numbers' s ≡ place_at numbers' t → ⊥
  places_once' s t before less =
      each_slot (λ t. s < t → place_at numbers' s ≡ place_at numbers' t → ⊥)
      (λ t below order e. wf.places_once s t order below (sym (place_kept s (omega arith)) ∙ e ∙ place_kept t below))
      (λ order e. new_place s order (sym (place_kept s order) ∙ e ∙ place_new)) t less before

  abbrev Taken : ℕ → Type 0
  Taken k = (p : ℕ) → p < count_at numbers' k → (s : ℕ) × ((s < n + 1) × (place_at numbers' s ≡ place k p))

  at_new : (p : ℕ) → p ≡ count → (s : ℕ) × ((s < n + 1) × (place_at numbers' s ≡ place l p))
  at_new p e = (n, (omega arith, place_new ∙ ap (place l) (sym e)))

  from_old : (k p : ℕ) → k < h.layers → p < count_at numbers k → (s : ℕ) × ((s < n + 1) × (place_at numbers' s ≡ place k p))
  from_old k p inside below = ((wf.places_taken k p inside below).0, (omega (arith, (wf.places_taken k p inside below).1.0), place_kept _ (wf.places_taken k p inside below).1.0 ∙ (wf.places_taken k p inside below).1.1))

  places_taken' : (k p : ℕ) → k < h'.layers → p < count_at numbers' k → (s : ℕ) × ((s < n + 1) × (place_at numbers' s ≡ place k p))
  places_taken' k p inside = each_layer Taken old_layer new_layer k inside p
    where
      in_l : l < h.layers → Taken l
      in_l inside p below =
          ⊎_elim (λ e. at_new p e) (λ less. from_old l p inside (subst (λ (c : ℕ). p < c) (home.counted inside) less)) (eq-or-lt_of_le (at_most (subst (λ (c : ℕ). p < c) count_at_new below)))
        where
          at_most : p < count + 1 → p ≤ count
          at_most x = omega arith

      old_layer : (k : ℕ) → k < h.layers → Taken k
      old_layer k inside = go (eqb k l) refl
        where
          go : (b : Bool) → eqb k l ≡ b → Taken k
          go true t = subst Taken (sym (eqb-true k l t)) (in_l (subst (λ (i : ℕ). i < h.layers) (eqb-true k l t) inside))
          go false t = λ p below. from_old k p inside (subst (λ (c : ℕ). p < c % span) (count_kept k (omega (arith, layers_bound)) (eqb-false k l t)) below)

      new_layer : l ≡ h.layers → Taken l
      new_layer last_one p below = at_new p (only_one (subst (λ (c : ℕ). p < c) count_at_new below) (home.none_counted last_one))
        where
          only_one : p < count + 1 → count ≡ 0 → p ≡ count
          only_one x y = omega arith

  layers_fit' : h'.layers ≤ max_layers
  layers_fit' = ⊎_elim (λ last_one. rw (layers_are.1 last_one) (omega (arith, home_fits))) (λ inside. rw (layers_are.0 inside) wf.layers_fit) (eq-or-lt_of_le home.within)

  pub well_formed_append : Indexed h' words' numbers'
  well_formed_append =
      record {
        widgets_fit = omega arith;
        layers_fit = layers_fit';
        heads = heads';
        links_lead = links_lead';
        ids_once = ids_once';
        layers_once = layers_once';
        counts_fit = counts_fit';
        layers_known = layers_known';
        positions_fit = positions_fit';
        places_once = places_once';
        places_taken = places_taken';
      }
