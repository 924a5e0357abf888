-- For a well-formed set, what `decide` leaves is what the model's `insert` leaves, and the set is well-formed again. Assumes nothing.
use Rattle.std.specs.Prelude.{Option, None, Some, Result}
use mathlib.Core.Path.{◌≡◌, refl, sym, ◌∙◌, ap}
use Prim.Native.Nat.{ℕ, zero, suc, ◌+◌, ◌-◌, ◌<◌, ◌≤◌}
use native.Mathlib.Omega.{arith}
use native.Mathlib.Numerals.{add-one}
use mathlib.Core.Bool.{Bool, true, false, cond}
use mathlib.Core.List.{List, [], ◌∷◌, ◌++◌, map}
use lib.Dec.{leb, ltb, eqb-suc-zero}
use lib.Ieee.{Float}
use lib.ListN.{length, take, drop, set, length-set, drop_of_length-le}
use lib.Seq.{set_split, length-take-le}
use borrow.Author.Tests.{lt-ltb, lt-leb, ltb-false, leb-false}
use Rattle.data.specs.Limits.{max_widgets, max_layers}
use Rattle.data.specs.declared.widget.WidgetRect.{WidgetRect}
use Rattle.data.specs.declared.refusal.InsertRefusal.{InsertRefusal}
use Rattle.data.specs.declared.refusal.InsertRefusal.TheVariants.{Full, OtherLayer, ShortSlice}
use Rattle.model.specs.Pass.{or_else}
use Rattle.model.specs.Widgets.{Known, Layer, same_layer, updated, record_refusal, move_to_end}
use Rattle.model.specs.Widgets as M
use Rattle.widget_index.specs.declared.table.WidgetRects.{WidgetRects}
use Rattle.widget_index.specs.Layout.{span, place, place_at, layer_of, position_of, count_at}
use Rattle.widget_index.specs.Table.{last, widgets_of, layers_of, layer_at, widget_at, known_at, layer_entry_at, view, head, find, find_layer}
use Rattle.widget_append.specs.declared.Insertion.{Insertion}
use Rattle.widget_append.specs.Append.{Outcome, Gives, unchanged, number_of, count_of, append, insert_new, with_traits, settled, set_after, settled_by}
use Rattle.widget_insert.specs.Insert.{at_least, replace, move_to_top, moved_numbers, fall, insert_known, insert_checked, decide}
use Rattle.widget_append.proofs.Cases as New
use Rattle.widget_insert.proofs.Cases as C
use Rattle.widget_rect.specs.Questions.{at_entry}
use Rattle.widget_rect.specs.WellFormed.{Indexed, WellFormed}
use Rattle.widget_rect.specs.Told.{told, model_row, Inserts}
use Rattle.widget_rect.proofs.Lists.{last_is, last_none, length_firsts}
use Rattle.widget_rect.proofs.Index.{unclamped, unlike, same_layer_is, finds_known, finds_layer}
use Rattle.widget_rect.proofs.Records.{sense_fits, length_with_edges, length_appended_words, length_appended_numbers}
use Rattle.widget_rect.proofs.Append.{Home, well_formed_append}
use Rattle.widget_rect.proofs.Appended.{home_known, home_new, by_id_appended, by_layer_known, by_layer_new}
use Rattle.widget_rect.proofs.Refused.{told_row, decide_keeps}
use Rattle.widget_rect.proofs.Fall.{length_fall}
use Rattle.widget_rect.proofs.Update as U

-- ---- the slice

settles : (i : ℕ) (w : WidgetRect) (slice : List WidgetRect) → i < length slice → settled i (i + 1) w slice ≡ set slice i w
unfolding settled move_to_end
settles i w slice within =
    let short : length (take (suc i) slice) ≤ suc i = omega (arith, length-take-le (suc i) slice within) in
    rw (lt-ltb i (i + 1) (omega arith))
    (ap (λ (m : ℕ). take i slice ++ (drop (suc i) (take m slice) ++ (w ∷ drop m slice))) (add-one i)
    ∙ ap (λ (r : List WidgetRect). take i slice ++ (r ++ (w ∷ drop (suc i) slice))) (drop_of_length-le (take (suc i) slice) {i = suc i} short)
    ∙ sym (set_split slice i w within))

moves_to_end : (from to : ℕ) (w : WidgetRect) (slice : List WidgetRect) → from < to → settled from to w slice ≡ move_to_end from to w slice
unfolding settled
moves_to_end from to w slice less = rw (lt-ltb from to less)

insertion_parts : (v v' : M.WidgetRects) (z z' : List WidgetRect) (p p' c c' : ℕ) → v ≡ v' → z ≡ z' → p ≡ p' → c ≡ c'
    → ◌≡◌ {A = M.Insertion} (record { widgets = v; slice = z; position = p; count = c }) (record { widgets = v'; slice = z'; position = p'; count = c' })
insertion_parts v v' z z' p p' c c' e f g h = rw (e, f, g, h)

set_parts : (y y' : List Layer) (k k' : List Known) → y ≡ y' → k ≡ k' → ◌≡◌ {A = M.WidgetRects} (record { by_layer = y; by_id = k }) (record { by_layer = y'; by_id = k' })
set_parts y y' k k' e f = rw (e, f)

-- ---- an insertion

module _ (h : WidgetRects) (words numbers : List ℕ) (edges : List Float) (slice : List WidgetRect) (w : WidgetRect) (top : Bool) (wf : Indexed h words numbers)
    (lw : length words ≡ 2080) (ln : length numbers ≡ 5184) (le : length edges ≡ 8192) where
  abbrev was : M.WidgetRects
  was = view h words numbers edges

  abbrev lent : ℕ
  lent = length slice

  -- what is to be shown of an outcome
  pub record Right (o : Outcome) : Type 0 where
    pub well_formed : WellFormed (set_after h o.decision) o.words o.numbers o.edges
    pub agrees : told o.decision (view (set_after h o.decision) o.words o.numbers o.edges) (settled_by o.decision slice) ≡ M.insert top was slice w

  right : {o o' : Outcome} → o ≡ o' → Right o' → Right o
  right e r = rw e r

  -- ---- the model's cases
  model_refuses : (why : InsertRefusal) → record_refusal w ≡ Some why → M.insert top was slice w ≡ M.refused why
  unfolding M.insert M.insert_refusal M.insert_unless or_else
  model_refuses why e = rw e

  module _ (shaped : record_refusal w ≡ None) where
    model_later : (k : Option Known) (why : InsertRefusal) → M.find_known w.id was.by_id ≡ k → M.known_refusal was lent w k ≡ Some why → M.insert top was slice w ≡ M.refused why
    unfolding M.insert M.insert_refusal M.insert_unless or_else
    model_later k why e f = rw (shaped, e, f)

    model_takes : (k : Option Known) → M.find_known w.id was.by_id ≡ k → M.known_refusal was lent w k ≡ None → M.insert top was slice w ≡ M.inserted (M.insert_by k top was slice w)
    unfolding M.insert M.insert_refusal M.insert_unless or_else
    model_takes k e f = rw (shaped, e, f) (ap (λ x. M.inserted (M.insert_by x top was slice w)) e)

  refused_right : (why : InsertRefusal) → M.insert top was slice w ≡ M.refused why → Right (unchanged why words numbers edges)
  unfolding told
  refused_right why e = record { well_formed = record { words_long = lw; numbers_long = ln; edges_long = le; indexed = wf }; agrees = sym e }

  widgets_count : length was.by_id ≡ h.widgets
  unfolding view
  widgets_count = length_firsts (known_at words numbers edges) (widgets_of h) ∙ unclamped max_widgets h.widgets wf.widgets_fit

  layers_count : length was.by_layer ≡ h.layers
  unfolding view
  layers_count = length_firsts (layer_entry_at words numbers) (layers_of h) ∙ unclamped max_layers h.layers wf.layers_fit

  all_layers : layers_of h ≡ h.layers
  all_layers = unclamped max_layers h.layers wf.layers_fit

  -- ---- a new widget
  module _ (shaped : record_refusal w ≡ None) (unknown : find h words numbers w.id ≡ 0) where
    nothing_known : M.find_known w.id was.by_id ≡ None
    nothing_known = finds_known h words numbers wf w.id edges ∙ ap (at_entry (known_at words numbers edges)) unknown

    -- the widget's layer: its entry, its number, its count
    module _ (e l count : ℕ) (found : find_layer words numbers w.layer_id h.layers ≡ e) (numbered : number_of e h.layers ≡ l) (counted : count_of numbers e ≡ count)
        (model-count : M.layer_count w.layer_id was ≡ count) (model-full : (b : Bool) → leb max_widgets h.widgets ≡ false → leb max_layers l ≡ b → M.full was (M.find_layer w.layer_id was.by_layer) ≡ b)
        (model-full-widgets : leb max_widgets h.widgets ≡ true → M.full was (M.find_layer w.layer_id was.by_layer) ≡ true)
        (home : leb max_layers l ≡ false → Home h words numbers w.layer_id l count)
        (by_layer : (room : h.widgets < max_widgets) (there : Home h words numbers w.layer_id l count) → (view (set_after h (append h words numbers edges w l count).decision) (append h words numbers edges w l count).words (append h words numbers edges w l count).numbers (append h words numbers edges w l count).edges).by_layer ≡ M.count_in w.layer_id was.by_layer) where
      layer_found : find_layer words numbers w.layer_id (layers_of h) ≡ e
      layer_found = ap (find_layer words numbers w.layer_id) all_layers ∙ found

      layer_numbered : number_of (find_layer words numbers w.layer_id (layers_of h)) (layers_of h) ≡ l
      layer_numbered = ap (λ (x : ℕ). number_of x (layers_of h)) layer_found ∙ ap (number_of e) all_layers ∙ numbered

      layer_counted : count_of numbers (find_layer words numbers w.layer_id (layers_of h)) ≡ count
      layer_counted = ap (count_of numbers) layer_found ∙ counted

      refuses : (why : InsertRefusal) → M.known_refusal was lent w None ≡ Some why → Right (unchanged why words numbers edges)
      refuses why r = refused_right why (model_later shaped None why nothing_known r)

      full_refusal : M.full was (M.find_layer w.layer_id was.by_layer) ≡ true → M.known_refusal was lent w None ≡ Some Full
      unfolding M.known_refusal
      full_refusal e' = rw e'

      short_refusal : M.full was (M.find_layer w.layer_id was.by_layer) ≡ false → (b : Bool) → ltb lent (count + 1) ≡ b → M.known_refusal was lent w None ≡ cond b (Some ShortSlice) None
      unfolding M.known_refusal M.slice_refusal
      short_refusal e' b t = rw (e', model-count, t)

      appended : leb max_widgets h.widgets ≡ false → (free : leb max_layers l ≡ false) → ltb lent (count + 1) ≡ false → Right (append h words numbers edges w l count)
      unfolding told append M.insert_by M.append
      appended f g short =
          record {
            well_formed =
                record {
                  words_long = length_appended_words h.widgets l w words ∙ lw;
                  numbers_long = length_appended_numbers h.widgets l count (head h words numbers w.id) w numbers ∙ ln;
                  edges_long = length_with_edges h.widgets w edges ∙ le;
                  indexed = well_formed_append h words numbers w l count wf lw ln room unknown (home g);
                };
            agrees =
                ap M.inserted
                (insertion_parts _ _ _ _ _ _ _ _
                (set_parts _ _ _ _ (by_layer room (home g)) (by_id_appended h words numbers edges w wf lw ln le room unknown (sense_fits w shaped) l count (home g) ∙ ap (λ (p : ℕ). was.by_id ++ (record { position = p; widget = w } ∷ [])) (sym model-count)))
                (settles count w slice (omega (arith, ltb-false lent (count + 1) short)) ∙ ap (λ (p : ℕ). set slice p w) (sym model-count))
                (sym model-count)
                (ap (λ (p : ℕ). p + 1) (sym model-count)))
                ∙ sym (model_takes shaped None nothing_known (short_refusal (model-full false f g) false short));
          }
        where
          room : h.widgets < max_widgets
          room = omega (arith, leb-false max_widgets h.widgets f)

      pub new_right : Right (insert_new h words numbers edges lent w)
      new_right = go (leb max_widgets h.widgets) refl (leb max_layers l) refl (ltb lent (count + 1)) refl
        where
          go : (a : Bool) → leb max_widgets h.widgets ≡ a → (b : Bool) → leb max_layers l ≡ b → (c : Bool) → ltb lent (count + 1) ≡ c → Right (insert_new h words numbers edges lent w)
          go true f b g c i = right (New.full h words numbers edges lent w f) (refuses Full (full_refusal (model-full-widgets f)))
          go false f true g c i = right (New.full_layers h words numbers edges lent w f (ap (leb max_layers) layer_numbered ∙ g)) (refuses Full (full_refusal (model-full true f g)))
          go false f false g true i =
              right (New.short_new h words numbers edges lent w f (ap (leb max_layers) layer_numbered ∙ g) (ap (λ (x : ℕ). ltb lent (x + 1)) layer_counted ∙ i))
              (refuses ShortSlice (short_refusal (model-full false f g) true i))
          go false f false g false i =
              right (New.appends h words numbers edges lent w f (ap (leb max_layers) layer_numbered ∙ g) (ap (λ (x : ℕ). ltb lent (x + 1)) layer_counted ∙ i)
              ∙ ap (λ (x : ℕ). append h words numbers edges w x (count_of numbers (find_layer words numbers w.layer_id (layers_of h)))) layer_numbered ∙ ap (append h words numbers edges w l) layer_counted)
              (appended f g i)

    model_layer : (e : ℕ) → find_layer words numbers w.layer_id h.layers ≡ e → M.find_layer w.layer_id was.by_layer ≡ at_entry (layer_entry_at words numbers) e
    model_layer e found = finds_layer h words numbers wf w.layer_id edges ∙ ap (at_entry (layer_entry_at words numbers)) found

    full_widgets : leb max_widgets h.widgets ≡ true → (y : Option Layer) → M.full was y ≡ true
    unfolding M.full
    full_widgets f None = rw (widgets_count, f)
    full_widgets f (Some y) = rw (widgets_count, f)

    number_inside : (l : ℕ) → find_layer words numbers w.layer_id h.layers ≡ suc l → l < h.layers
    unfolding find_layer
    number_inside l found = (last_is (λ k. same_layer w.layer_id (layer_at words numbers k)) h.layers l found).0

    -- by the layer's entry
    by_entry : (e : ℕ) → find_layer words numbers w.layer_id h.layers ≡ e → Right (insert_new h words numbers edges lent w)
    unfolding append number_of count_of M.layer_count M.count_of M.full
    by_entry zero found =
        new_right 0 h.layers 0 found refl refl
        (rw (model_layer 0 found))
        (λ b f g. rw (model_layer 0 found, widgets_count, f, layers_count, g))
        (λ f. full_widgets f (M.find_layer w.layer_id was.by_layer))
        (λ g. home_new h words numbers wf w.layer_id found (omega (arith, leb-false max_layers h.layers g)))
        (λ room there. by_layer_new h words numbers edges w wf lw ln le room unknown (sense_fits w shaped) h.layers 0 there found refl refl)
    by_entry (suc l) found =
        let one : suc l - 1 ≡ l = omega arith in
        new_right (suc l) l (count_at numbers l) found
        (rw (eqb-suc-zero, one))
        (rw (eqb-suc-zero, one))
        (rw (model_layer (suc l) found))
        (λ b f g. rw (model_layer (suc l) found, widgets_count, f) (sym (lt-leb max_layers l (omega (arith, number_inside l found, wf.layers_fit))) ∙ g))
        (λ f. full_widgets f (M.find_layer w.layer_id was.by_layer))
        (λ g. home_known h words numbers wf w.layer_id l found)
        (λ room there. by_layer_known h words numbers edges w wf lw ln le room unknown (sense_fits w shaped) l (count_at numbers l) there found)

    pub new_is_right : Right (insert_new h words numbers edges lent w)
    new_is_right = by_entry (find_layer words numbers w.layer_id h.layers) refl

  -- ---- a known widget
  module _ (shaped : record_refusal w ≡ None) (s : ℕ) (known : find h words numbers w.id ≡ suc s) where
    abbrev new : WidgetRect
    new = updated (widget_at words numbers edges s) w

    abbrev l : ℕ
    l = layer_of (place_at numbers s)

    abbrev position : ℕ
    position = position_of (place_at numbers s)

    abbrev count : ℕ
    count = count_at numbers l

    inside : s < h.widgets
    inside = U.inside h words numbers edges w s wf ln le known

    the_known : M.find_known w.id was.by_id ≡ Some (known_at words numbers edges s)
    the_known = finds_known h words numbers wf w.id edges ∙ ap (at_entry (known_at words numbers edges)) known

    abbrev same : Bool
    same = same_layer w.layer_id (layer_at words numbers l)

    -- the layer is found under the number that the widget's place has
    own_layer : same ≡ true → find_layer words numbers w.layer_id h.layers ≡ suc l
    unfolding find_layer
    own_layer e = go (last is h.layers) refl
      where
        is : ℕ → Bool
        is k = same_layer w.layer_id (layer_at words numbers k)

        l_inside : l < h.layers
        l_inside = U.layer_inside h words numbers wf s inside

        go : (x : ℕ) → last is h.layers ≡ x → last (λ k. same_layer w.layer_id (layer_at words numbers k)) h.layers ≡ suc l
        go zero none-there = absurd (unlike (sym e ∙ last_none is h.layers none-there l l_inside))
        go (suc k) found =
            found ∙ ap suc (sym (U.layers_differ h words numbers wf l k l_inside (last_is is h.layers k found).0
            (ap (λ i. same_layer i (layer_at words numbers k)) (sym (same_layer_is w.layer_id (layer_at words numbers l) e)) ∙ (last_is is h.layers k found).1)))

    known_count : same ≡ true → M.layer_count w.layer_id was ≡ count
    unfolding M.layer_count M.count_of
    known_count e = rw (finds_layer h words numbers wf w.layer_id edges, own_layer e)

    other_refusal : same ≡ false → M.known_refusal was lent w (Some (known_at words numbers edges s)) ≡ Some OtherLayer
    unfolding M.known_refusal
    other_refusal e = rw e

    short_of_known : same ≡ true → (b : Bool) → ltb lent count ≡ b → M.known_refusal was lent w (Some (known_at words numbers edges s)) ≡ cond b (Some ShortSlice) None
    unfolding M.known_refusal M.slice_refusal
    short_of_known e b t = rw (e, known_count e, t)

    own_count : at_least (position + 1) (count_at numbers l) ≡ count
    own_count = U.count_is h words numbers wf s inside

    refuses_known : (why : InsertRefusal) → M.known_refusal was lent w (Some (known_at words numbers edges s)) ≡ Some why → Right (unchanged why words numbers edges)
    refuses_known why r = refused_right why (model_later shaped (Some (known_at words numbers edges s)) why the_known r)

    short_count : ltb lent count ≡ false → (position < count) × (count ≤ lent)
    short_count t = (omega (arith, wf.positions_fit s inside), ltb-false lent count t)

    -- the record keeps its layer
    new_count : same ≡ true → M.layer_count new.layer_id was ≡ count
    unfolding updated
    new_count e = ap (λ i. M.layer_count i was) (sym (same_layer_is w.layer_id (layer_at words numbers l) e)) ∙ known_count e

    new_id : w.id ≡ new.id
    unfolding updated
    new_id = U.the_id h words numbers edges w s wf ln le known

    replaced : same ≡ true → ltb lent count ≡ false → top ≡ false → Right (replace h words numbers edges new s position count)
    unfolding told replace M.insert_by M.update M.replace
    replaced e t f =
        record {
          well_formed =
              record { words_long = lw; numbers_long = length-set numbers _ _ ∙ ln; edges_long = length_with_edges s new edges ∙ le; indexed = U.well_formed_replace h words numbers edges w s wf ln le known };
          agrees =
              ap M.inserted
              (insertion_parts _ _ _ _ _ _ _ _
              (set_parts _ _ _ _ (U.by_layer_replaced h words numbers edges w s wf ln le known) (U.by_id_replaced h words numbers edges w s wf ln le known ∙ ap (λ (d : ℕ). M.with_known d (record { position = position; widget = new }) was.by_id) new_id))
              (settles position new slice (omega (arith, (short_count t).0, (short_count t).1)))
              refl
              (sym (new_count e)))
              ∙ ap (λ (b : Bool). M.inserted (M.insert_by (Some (known_at words numbers edges s)) b was slice w)) (sym f)
              ∙ sym (model_takes shaped (Some (known_at words numbers edges s)) the_known (short_of_known e false t));
        }

    moved : same ≡ true → ltb lent count ≡ false → top ≡ true → Right (move_to_top h words numbers edges new s l position count)
    unfolding told move_to_top moved_numbers M.insert_by M.update M.move_to_top
    moved e t f =
        record {
          well_formed =
              record {
                words_long = lw;
                numbers_long = length-set (fall (widgets_of h) (place l position) (place l span) (with_traits s new numbers)) _ _ ∙ length_fall (place l position) (place l span) (widgets_of h) (with_traits s new numbers) ∙ length-set numbers _ _ ∙ ln;
                edges_long = length_with_edges s new edges ∙ le;
                indexed = rw all_widgets (U.well_formed_move h words numbers edges w s wf ln le known count refl);
              };
          agrees =
              ap M.inserted
              (insertion_parts _ _ _ _ _ _ _ _
              (rw all_widgets
              (set_parts _ _ _ _ (U.by_layer_moved h words numbers edges w s wf ln le known count refl)
              (U.by_id_moved h words numbers edges w s wf ln le known count refl
              ∙ ap (λ (d : ℕ). M.with_known d (record { position = count - 1; widget = new }) (map (M.fall new.layer_id position) was.by_id)) new_id
              ∙ ap (λ (c : ℕ). M.with_known new.id (record { position = c - 1; widget = new }) (map (M.fall new.layer_id position) was.by_id)) (sym (new_count e)))))
              (moves_to_end position count new slice (short_count t).0 ∙ ap (λ (c : ℕ). move_to_end position c new slice) (sym (new_count e)))
              (ap (λ (c : ℕ). c - 1) (sym (new_count e)))
              (sym (new_count e)))
              ∙ ap (λ (b : Bool). M.inserted (M.insert_by (Some (known_at words numbers edges s)) b was slice w)) (sym f)
              ∙ sym (model_takes shaped (Some (known_at words numbers edges s)) the_known (short_of_known e false t));
        }
      where
        all_widgets : widgets_of h ≡ h.widgets
        all_widgets = unclamped max_widgets h.widgets wf.widgets_fit

    pub known_is_right : Right (insert_known h words numbers edges lent w s top)
    known_is_right = go same refl (ltb lent count) refl top refl
      where
        go : (a : Bool) → same ≡ a → (b : Bool) → ltb lent count ≡ b → (c : Bool) → top ≡ c → Right (insert_known h words numbers edges lent w s top)
        go false e b t c f = right (C.other_layer h words numbers edges lent w s top e) (refuses_known OtherLayer (other_refusal e))
        go true e true t c f = right (C.short_known h words numbers edges lent w s top e (ap (ltb lent) own_count ∙ t)) (refuses_known ShortSlice (short_of_known e true t))
        go true e false t true f =
            right (C.moves h words numbers edges lent w s top f e (ap (ltb lent) own_count ∙ t) ∙ ap (move_to_top h words numbers edges new s l position) own_count) (moved e t f)
        go true e false t false f =
            right (C.replaces h words numbers edges lent w s top f e (ap (ltb lent) own_count ∙ t) ∙ ap (replace h words numbers edges new s position) own_count) (replaced e t f)

  -- ---- any insertion
  checked_right : record_refusal w ≡ None → Right (insert_checked h words numbers edges lent w top)
  checked_right shaped = go (find h words numbers w.id) refl
    where
      go : (e : ℕ) → find h words numbers w.id ≡ e → Right (insert_checked h words numbers edges lent w top)
      go zero none-there = right (C.is_new h words numbers edges lent w top none-there) (new_is_right shaped none-there)
      go (suc s) found = right (C.is_known h words numbers edges lent w top s found) (known_is_right shaped s found)

  pub decide_right : Right (decide h words numbers edges lent w top)
  decide_right = go (record_refusal w) refl
    where
      go : (r : Option InsertRefusal) → record_refusal w ≡ r → Right (decide h words numbers edges lent w top)
      go None e = right (C.checks h words numbers edges lent w top e) (checked_right e)
      go (Some why) e = right (C.refuses h words numbers edges lent w top why e) (refused_right why (model_refuses why e))

-- ---- what `insert` ensures, from what its callees do
pub inserts : (h : WidgetRects) (words numbers : List ℕ) (edges : List Float) (slice : List WidgetRect) (w : WidgetRect) (top : Bool) (r : Result Insertion InsertRefusal) (ws ns : List ℕ) (es : List Float) (zs : List WidgetRect)
    → Gives (decide h words numbers edges (length slice) w top) r ws ns es → zs ≡ settled_by r slice → Inserts h words numbers edges slice w top r ws ns es zs
inserts h words numbers edges slice w top r ws ns es zs g e =
    let agrees : WellFormed h words numbers edges → told r (view (set_after h r) ws ns es) zs ≡ M.insert top (view h words numbers edges) slice w =
    λ wf. rw (e, g.decision, g.words, g.numbers, g.edges) (decide_right h words numbers edges slice w top wf.indexed wf.words_long wf.numbers_long wf.edges_long).agrees in
    record {
      own = g;
      slice_after = e;
      refused = λ why q. rw (e, g.decision, g.words, g.numbers, g.edges) ((decide_keeps h words numbers edges slice (length slice) w top).keeps why (sym g.decision ∙ q));
      model = agrees;
      row = λ wf. told_row r _ _ ∙ ap model_row (agrees wf);
      well_formed = λ wf. rw (g.decision, g.words, g.numbers, g.edges) (decide_right h words numbers edges slice w top wf.indexed wf.words_long wf.numbers_long wf.edges_long).well_formed;
    }
