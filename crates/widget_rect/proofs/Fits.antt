-- Whatever the set and its arrays hold, what is decided fits the lent slice. Assumes nothing.
use Rattle.std.specs.Prelude.{Option, None, Some, Ok, Err, Result}
use mathlib.Core.Path.{◌≡◌, refl}
use Prim.Native.Nat.{ℕ, zero, suc, ◌+◌, ◌≤◌, zero-le}
use native.Mathlib.Omega.{arith}
use mathlib.Core.Bool.{Bool, true, false}
use mathlib.Core.List.{List}
use lib.Dec.{leb, ltb}
use lib.Ieee.{Float}
use borrow.Author.Tests.{ltb-false}
use Rattle.data.specs.Limits.{max_widgets, max_layers}
use Rattle.data.specs.declared.widget.WidgetRect.{WidgetRect}
use Rattle.data.specs.declared.refusal.InsertRefusal.{InsertRefusal}
use Rattle.model.specs.Widgets.{same_layer, record_refusal}
use Rattle.widget_index.specs.declared.table.WidgetRects.{WidgetRects}
use Rattle.widget_index.specs.Layout.{place_at, layer_of, position_of, count_at}
use Rattle.widget_index.specs.Table.{layers_of, layer_at, find, find_layer}
use Rattle.widget_append.specs.declared.Insertion.{Insertion}
use Rattle.widget_append.specs.Append.{Outcome, number_of, count_of, append, insert_new}
use Rattle.widget_insert.specs.Insert.{at_least, replace, move_to_top, insert_known, insert_checked, decide}
use Rattle.widget_append.proofs.Cases as New
use Rattle.widget_insert.proofs.Cases as C

at_least_low : (low n : ℕ) → low ≤ at_least low n
unfolding at_least
at_least_low low n = go (ltb n low) refl
  where
    go : (b : Bool) → ltb n low ≡ b → low ≤ at_least low n
    go true t = rw t (omega arith)
    go false t = rw t (ltb-false n low t)

-- how far a decision settles the slice
unfoldable pub end_of : Result Insertion InsertRefusal → ℕ
end_of (Err why) = 0
end_of (Ok i) = i.to

module _ (h : WidgetRects) (words numbers : List ℕ) (edges : List Float) (lent : ℕ) (w : WidgetRect) (top : Bool) where
  abbrev Fits : Outcome → Type 0
  Fits o = end_of o.decision ≤ lent

  fits : {o o' : Outcome} → o ≡ o' → Fits o' → Fits o
  fits e f = rw e f

  new_fits : Fits (insert_new h words numbers edges lent w)
  unfolding append end_of
  new_fits = go (leb max_widgets h.widgets) refl (leb max_layers l) refl (ltb lent (count + 1)) refl
    where
      e : ℕ
      e = find_layer words numbers w.layer_id (layers_of h)

      l : ℕ
      l = number_of (find_layer words numbers w.layer_id (layers_of h)) (layers_of h)

      count : ℕ
      count = count_of numbers (find_layer words numbers w.layer_id (layers_of h))

      go : (a : Bool) → leb max_widgets h.widgets ≡ a → (b : Bool) → leb max_layers (number_of (find_layer words numbers w.layer_id (layers_of h)) (layers_of h)) ≡ b
          → (c : Bool) → ltb lent (count_of numbers (find_layer words numbers w.layer_id (layers_of h)) + 1) ≡ c → Fits (insert_new h words numbers edges lent w)
      go true f b g c i = fits (New.full h words numbers edges lent w f) zero-le
      go false f true g c i = fits (New.full_layers h words numbers edges lent w f g) zero-le
      go false f false g true i = fits (New.short_new h words numbers edges lent w f g i) zero-le
      go false f false g false i = fits (New.appends h words numbers edges lent w f g i) (ltb-false lent _ i)

  known_fits : (s : ℕ) → Fits (insert_known h words numbers edges lent w s top)
  unfolding replace move_to_top end_of
  known_fits s = go (same_layer w.layer_id (layer_at words numbers (layer_of (place_at numbers s)))) refl (ltb lent (at_least (position_of (place_at numbers s) + 1) (count_at numbers (layer_of (place_at numbers s))))) refl top refl
    where
      go : (a : Bool) → same_layer w.layer_id (layer_at words numbers (layer_of (place_at numbers s))) ≡ a
          → (b : Bool) → ltb lent (at_least (position_of (place_at numbers s) + 1) (count_at numbers (layer_of (place_at numbers s)))) ≡ b → (c : Bool) → top ≡ c → Fits (insert_known h words numbers edges lent w s top)
      go false e b t c f = fits (C.other_layer h words numbers edges lent w s top e) zero-le
      go true e true t c f = fits (C.short_known h words numbers edges lent w s top e t) zero-le
      go true e false t true f = fits (C.moves h words numbers edges lent w s top f e t) (ltb-false lent _ t)
      go true e false t false f =
          fits (C.replaces h words numbers edges lent w s top f e t)
          (omega (arith, ltb-false lent (at_least (position_of (place_at numbers s) + 1) (count_at numbers (layer_of (place_at numbers s)))) t, at_least_low (position_of (place_at numbers s) + 1) (count_at numbers (layer_of (place_at numbers s)))))

  checked_fits : Fits (insert_checked h words numbers edges lent w top)
  checked_fits = go (find h words numbers w.id) refl
    where
      go : (e : ℕ) → find h words numbers w.id ≡ e → Fits (insert_checked h words numbers edges lent w top)
      go zero none-there = fits (C.is_new h words numbers edges lent w top none-there) new_fits
      go (suc s) found = fits (C.is_known h words numbers edges lent w top s found) (known_fits s)

  pub decide_fits : end_of (decide h words numbers edges lent w top).decision ≤ lent
  unfolding end_of
  decide_fits = go (record_refusal w) refl
    where
      go : (r : Option InsertRefusal) → record_refusal w ≡ r → Fits (decide h words numbers edges lent w top)
      go None e = fits (C.checks h words numbers edges lent w top e) checked_fits
      go (Some why) e = fits (C.refuses h words numbers edges lent w top why e) zero-le
