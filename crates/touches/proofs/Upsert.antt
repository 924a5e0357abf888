-- Putting an element into a list by ascending id, or changing the one that is there: the model's recursions by the place where they stop. Assumes nothing.
use mathlib.Core.Path.{◌≡◌, refl, sym, ap, ◌∙◌}
use mathlib.Core.Bool.{Bool, true, false, cond}
use mathlib.Core.List.{List, [], ◌∷◌}
use Prim.Native.Nat.{ℕ, zero, suc, ◌≤◌, ◌<◌}
use native.Mathlib.Omega.{arith}
use borrow.Author.Tests.{ltb-true, ltb-false, eqb-true, eqb-false, lt-ltb, le-ltb, ne_eqb, le-leb, lt-leb}
use lib.Dec.{ltb, eqb}
use lib.ListN.{length, get_or, set, take, length-set, length-take, length-drop, length-append}
use lib.Seq.{set_out, get_or-take}
use Rattle.data.specs.Limits.{max_touches}
use Rattle.model.specs.Types.{ActiveTouch}
use Rattle.model.specs.Touch.{insert_touch, move_touch, remove_touch, holds, some_touch, touch_id_of}
use Rattle.touches.specs.Touches.{place, index, starts, is_at, inserted_at, if_room}

pub no : {P : Type 0} → ◌≡◌ {A = Bool} false true → P
no {P} e = absurd (let z : ◌≡◌ {A = ℕ} 0 1 = cc in omega arith)

module _ {A : Type 0} (key : A → ℕ) (d : ℕ) (new : A) (f : A → A) where
  unfoldable pub upsert : List A → List A
  upsert [] = new ∷ []
  upsert (u ∷ us) = cond (ltb d (key u)) (new ∷ u ∷ us) (cond (eqb d (key u)) (f u ∷ us) (u ∷ upsert us))

  before_not_lt : (u : A) → ltb (key u) d ≡ true → ltb d (key u) ≡ false
  before_not_lt u q = le-ltb d (key u) (omega (arith, ltb-true (key u) d q))

  before_not_eq : (u : A) → ltb (key u) d ≡ true → eqb d (key u) ≡ false
  before_not_eq u q = ne_eqb d (key u) (λ e. omega (arith, ltb-true (key u) d q))

  hit_by : (z u : A) (us : List A) (b : Bool) → ltb (key u) d ≡ b
      → (is_at key (place key d us) d us ≡ true → upsert us ≡ set us (place key d us) (f (get_or us (place key d us) z)))
      → is_at key (place key d (u ∷ us)) d (u ∷ us) ≡ true
      → upsert (u ∷ us) ≡ set (u ∷ us) (place key d (u ∷ us)) (f (get_or (u ∷ us) (place key d (u ∷ us)) z))
  unfolding upsert is_at place starts
  hit_by z u us true q ih e = rw (before_not_lt u q, before_not_eq u q, q) (ap {B = List A} (λ r. u ∷ r) (ih (rw q at e)))
  hit_by z u us false q ih e =
      let s : eqb d (key u) ≡ true = rw q at e in
      let t : ltb d (key u) ≡ false = le-ltb d (key u) (omega (arith, eqb-true d (key u) s)) in
      rw (t, s, q)

  pub upsert_hit : (z : A) (us : List A) → is_at key (place key d us) d us ≡ true
      → upsert us ≡ set us (place key d us) (f (get_or us (place key d us) z))
  unfolding is_at place starts
  upsert_hit z [] e = no e
  upsert_hit z (u ∷ us) e = hit_by z u us (ltb (key u) d) refl (upsert_hit z us) e

  miss_by : (u : A) (us : List A) (b : Bool) → ltb (key u) d ≡ b
      → (is_at key (place key d us) d us ≡ false → upsert us ≡ inserted_at (place key d us) new us)
      → is_at key (place key d (u ∷ us)) d (u ∷ us) ≡ false
      → upsert (u ∷ us) ≡ inserted_at (place key d (u ∷ us)) new (u ∷ us)
  unfolding upsert is_at place starts inserted_at
  miss_by u us true q ih e = rw (before_not_lt u q, before_not_eq u q, q) (ap {B = List A} (λ r. u ∷ r) (ih (rw q at e)))
  miss_by u us false q ih e =
      let s : eqb d (key u) ≡ false = rw q at e in
      let n : d ≡ key u → ⊥ = eqb-false d (key u) s in
      let t : ltb d (key u) ≡ true = lt-ltb d (key u) (omega (arith, ltb-false (key u) d q, n)) in
      rw (t, q)

  pub upsert_miss : (us : List A) → is_at key (place key d us) d us ≡ false → upsert us ≡ inserted_at (place key d us) new us
  unfolding upsert is_at place starts inserted_at
  upsert_miss [] e = refl
  upsert_miss (u ∷ us) e = miss_by u us (ltb (key u) d) refl (upsert_miss us) e

module _ {A : Type 0} (key : A → ℕ) (d : ℕ) where
  place_by : (u : A) (us : List A) (b : Bool) → ltb (key u) d ≡ b → place key d us ≤ length us → place key d (u ∷ us) ≤ length (u ∷ us)
  unfolding place
  place_by u us true q ih = rw q (omega arith)
  place_by u us false q ih = rw q (omega arith)

  pub place_le : (us : List A) → place key d us ≤ length us
  unfolding place
  place_le [] = omega arith
  place_le (u ∷ us) = place_by u us (ltb (key u) d) refl (place_le us)

  -- an element that has the id is there
  pub at_lt : (i : ℕ) (us : List A) → is_at key i d us ≡ true → i < length us
  unfolding is_at starts
  at_lt zero [] e = no e
  at_lt zero (u ∷ us) e = omega arith
  at_lt (suc i) [] e = no e
  at_lt (suc i) (u ∷ us) e = omega (arith, at_lt i us e)

  pub at_yes : (i : ℕ) (us : List A) (z : A) → i < length us → is_at key i d us ≡ eqb d (key (get_or us i z))
  unfolding is_at starts
  at_yes zero [] z h = absurd (omega arith)
  at_yes zero (u ∷ us) z h = refl
  at_yes (suc i) [] z h = absurd (omega arith)
  at_yes (suc i) (u ∷ us) z h = at_yes i us z (omega arith)

  pub at_place : (i c : ℕ) (a : List A) (z : A) → i < length (take c a) → eqb d (key (get_or a i z)) ≡ is_at key i d (take c a)
  at_place i c a z h =
      let k : i < c = omega (arith, length-take c a) in
      sym (at_yes i (take c a) z h ∙ ap (λ (x : A). eqb d (key x)) (get_or-take c a i z k))

  pub at_no : (i : ℕ) (us : List A) → length us ≤ i → is_at key i d us ≡ false
  unfolding is_at starts
  at_no zero [] h = refl
  at_no zero (u ∷ us) h = absurd (omega arith)
  at_no (suc i) [] h = refl
  at_no (suc i) (u ∷ us) h = at_no i us (omega arith)

pub length_inserted : {A : Type 0} (i : ℕ) (x : A) (us : List A) → i ≤ length us → length (inserted_at i x us) ≡ suc (length us)
unfolding inserted_at
length_inserted i x us h = simp (length-append, length-take, length-drop) (omega arith)

-- ---- the model's touches

pub insert_upsert : (t : ActiveTouch) (us : List ActiveTouch) → insert_touch t us ≡ upsert touch_id_of t.id t (λ (u : ActiveTouch). t) us
unfolding insert_touch upsert
insert_upsert t [] = refl
insert_upsert t (u ∷ us) = rw (insert_upsert t us)

move_by : (t u : ActiveTouch) (us : List ActiveTouch) (b : Bool) → eqb t.id u.id ≡ b → set us (index touch_id_of t.id us) t ≡ move_touch t us
    → set (u ∷ us) (index touch_id_of t.id (u ∷ us)) t ≡ move_touch t (u ∷ us)
unfolding index move_touch
move_by t u us true q ih = rw q
move_by t u us false q ih = rw q (ap {B = List ActiveTouch} (λ r. u ∷ r) ih)

pub move_set : (t : ActiveTouch) (us : List ActiveTouch) → set us (index touch_id_of t.id us) t ≡ move_touch t us
unfolding index move_touch
move_set t [] = refl
move_set t (u ∷ us) = move_by t u us (eqb t.id u.id) refl (move_set t us)

pub some_ltb : (n : ℕ) → ltb 0 (suc n) ≡ true
some_ltb n = lt-ltb 0 (suc n) (omega arith)

module _ (t : ActiveTouch) (us : List ActiveTouch) (i : ℕ) (at : i ≡ index touch_id_of t.id us) where
  pub move_at : set us i t ≡ move_touch t us
  move_at = rw at (move_set t us)

  pub move_out : length us ≤ i → us ≡ move_touch t us
  move_out h = sym (set_out us i t h) ∙ move_at

ltb_suc : (a b : ℕ) (c : Bool) → ltb a b ≡ c → ltb (suc a) (suc b) ≡ ltb a b
ltb_suc a b true q = rw q (lt-ltb (suc a) (suc b) (omega (arith, ltb-true a b q)))
ltb_suc a b false q = rw q (le-ltb (suc a) (suc b) (omega (arith, ltb-false a b q)))

holds_by : (d : ℕ) (u : ActiveTouch) (us : List ActiveTouch) (b : Bool) → eqb d u.id ≡ b → ltb (index touch_id_of d us) (length us) ≡ holds d us
    → ltb (index touch_id_of d (u ∷ us)) (length (u ∷ us)) ≡ holds d (u ∷ us)
unfolding index holds
holds_by d u us true q ih = rw q (some_ltb (length us))
holds_by d u us false q ih = rw q (ltb_suc (index touch_id_of d us) (length us) (ltb (index touch_id_of d us) (length us)) refl ∙ ih)

pub holds_index : (d : ℕ) (us : List ActiveTouch) → ltb (index touch_id_of d us) (length us) ≡ holds d us
unfolding index holds
holds_index d [] = refl
holds_index d (u ∷ us) = holds_by d u us (eqb d u.id) refl (holds_index d us)

-- ---- what fits

pub fits : (new old : List ActiveTouch) → length new ≤ max_touches → if_room new old ≡ new
unfolding if_room
fits new old h = rw (le-leb _ _ h)

pub too_long : (new old : List ActiveTouch) → max_touches < length new → if_room new old ≡ old
unfolding if_room
too_long new old h = rw (lt-leb _ _ h)

pub length_move : (t : ActiveTouch) (us : List ActiveTouch) → length (move_touch t us) ≡ length us
length_move t us = rw (← move_set t us, length-set)

remove_by : (d : ℕ) (u : ActiveTouch) (us : List ActiveTouch) (b : Bool) → eqb d u.id ≡ b → length (remove_touch d us) ≤ length us
    → length (remove_touch d (u ∷ us)) ≤ length (u ∷ us)
unfolding remove_touch
remove_by d u us true q ih = rw q (omega arith)
remove_by d u us false q ih = rw q (omega arith)

pub length_remove : (d : ℕ) (us : List ActiveTouch) → length (remove_touch d us) ≤ length us
unfolding remove_touch
length_remove d [] = omega arith
length_remove d (u ∷ us) = remove_by d u us (eqb d u.id) refl (length_remove d us)

-- ---- whether there is one

pub some_length : (us : List ActiveTouch) → ltb 0 (length us) ≡ some_touch us
unfolding some_touch
some_length [] = refl
some_length (u ∷ us) = some_ltb (length us)
