-- The touches: what stands for them gives them back, every value stands for some, and ids ascend exactly if they pass their tests. Assumes nothing.
use Rattle.std.specs.Prelude.{Option, None, Some}
use Prim.Native.Nat.{ℕ, ◌≤◌, ◌<◌}
use mathlib.Core.Path.{◌≡◌, refl, sym, ap₂, subst}
use mathlib.Core.List.{List, [], ◌∷◌, map}
use lib.Dec.{T, leb, lt→ltb, ltb→lt, leb→le}
use lib.ListN.{length, length-map}
use lib.Ieee.{Float}
use Rattle.data.specs.Limits.{max_touches}
use Rattle.data.specs.declared.touch.ActiveTouch.{ActiveTouch}
use Rattle.model.specs.Touch.{Above, Ascending, touch_id_of}
use Rattle.model.proofs.Ids.{above_down}
use Rattle.image.specs.Codes.{El, In}
use Rattle.image.specs.Places.{Tested}
use Rattle.image.proofs.Lists.{keyed_tested}
use Rattle.image_touches.specs.Touches.{ascending, touch_code, touches_code, touch_el, touch_of, touches_el, touches_of}

force_back : (o : Option Float) → o ≡ o
force_back None = refl
force_back (Some x) = refl

touch_back : (t : ActiveTouch) → touch_of (touch_el t) ≡ t
touch_back t = rw (force_back t.force)

pub touches_back : (us : List ActiveTouch) → touches_of (touches_el us) ≡ us
unfolding touches_of touches_el
touches_back [] = refl
touches_back (u ∷ us) = ap₂ (λ (x : ActiveTouch) (xs : List ActiveTouch). x ∷ xs) (touch_back u) (touches_back us)

force_forth : (o : Option Float) → o ≡ o
force_forth None = refl
force_forth (Some x) = refl

pub touches_forth : (vs : List (ℕ × El touch_code)) → touches_el (touches_of vs) ≡ vs
unfolding touches_el touches_of
touches_forth [] = refl
touches_forth (v ∷ vs) = ap₂ {C = List (ℕ × El touch_code)} (λ (o : Option Float) (z : List (ℕ × El touch_code)). (v.0, (v.1.0, (v.1.1.0, o))) ∷ z) (force_forth v.1.1.1) (touches_forth vs)

-- ---- entries by id: those of a list ascend exactly if each passes its test against the ones before it
module _ {A B : Type 0} (f : A → ℕ × B) where
  abbrev key : A → ℕ
  key x = (f x).0

  rising : (d : ℕ) (seen : List ℕ) (xs : List A) → Above key d xs → Ascending key xs → Tested ascending (d ∷ seen) (map f xs)
  unfolding ascending
  rising d seen [] a h = tt
  rising d seen (x ∷ xs) a h = (lt→ltb d (key x) a.0, rising (key x) (d ∷ seen) xs h.0 h.1)

  pub ascending_tested : (xs : List A) → Ascending key xs → Tested ascending [] (map f xs)
  unfolding ascending
  ascending_tested [] h = tt
  ascending_tested (x ∷ xs) h = (tt, rising (key x) [] xs h.0 h.1)

  risen : (d : ℕ) (seen : List ℕ) (xs : List A) → Tested ascending (d ∷ seen) (map f xs) → Above key d xs × Ascending key xs
  unfolding ascending
  risen d seen [] t = (tt, tt)
  risen d seen (x ∷ xs) t =
      let r = risen (key x) (d ∷ seen) xs t.1 in
      let l : d < key x = ltb→lt d (key x) t.0 in
      ((l, above_down key d (key x) xs l r.0), (r.0, r.1))

  pub tested_ascending : (xs : List A) → Tested ascending [] (map f xs) → Ascending key xs
  tested_ascending [] t = tt
  tested_ascending (x ∷ xs) t = let r = risen (key x) [] xs t.1 in (r.0, r.1)

-- ---- of a value in range
pub most : {A B : Type 0} (f : A → B) (xs : List A) (m : ℕ) → T (leb (length xs) m) → length (map f xs) ≤ m
most f xs m h = subst (λ (n : ℕ). n ≤ m) (sym (length-map xs f)) (leb→le (length xs) m h)

module _ (vs : List (ℕ × El touch_code)) (h : In (touches_code max_touches) vs) where
  pub touches_ascend : Ascending touch_id_of (touches_of vs)
  unfolding touches_el touches_of
  touches_ascend = tested_ascending touch_el (touches_of vs) (subst (Tested ascending []) (sym (touches_forth vs)) (keyed_tested ascending (In touch_code) [] vs h.1))

  pub touches_most : length (touches_of vs) ≤ max_touches
  unfolding touches_of
  touches_most = most touch_of vs max_touches h.0
