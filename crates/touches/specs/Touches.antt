-- The touches as the model's list, and places in a list by ascending id.
use Rattle.std.specs.Prelude.{ℕ, suc, Bool, false, cond, List, [], ◌∷◌, ◌++◌, leb, ltb, eqb, length, take, drop}
use Rattle.data.specs.Limits.{max_touches}
use Rattle.model.specs.Types.{TouchPhase, ActiveTouch}
use Rattle.model.specs.Touch.{on_touch}
use Rattle.touches.specs.declared.Touches.{Touches}

-- the first `count` places are the list
abbrev pub list : Touches → List ActiveTouch
list ts = take ts.count ts.places

-- ---- places in a list by ascending id

-- the first place with this id or a greater one
unfoldable pub place : {A : Type 0} → (A → ℕ) → ℕ → List A → ℕ
place key i [] = 0
place key i (u ∷ us) = cond (ltb (key u) i) (suc (place key i us)) 0

-- the first place with this id, or the length
unfoldable pub index : {A : Type 0} → (A → ℕ) → ℕ → List A → ℕ
index key i [] = 0
index key i (u ∷ us) = cond (eqb i (key u)) 0 (suc (index key i us))

-- does an element have this id?
abbrev pub has : {A : Type 0} → (A → ℕ) → ℕ → A → Bool
has key d u = eqb d (key u)

-- does the element at place i have this id?
unfoldable pub starts : {A : Type 0} → (A → ℕ) → ℕ → List A → Bool
starts key d [] = false
starts key d (u ∷ us) = eqb d (key u)

unfoldable pub is_at : {A : Type 0} → (A → ℕ) → ℕ → ℕ → List A → Bool
is_at key i d us = starts key d (drop i us)

-- x put in at place i
unfoldable pub inserted_at : {A : Type 0} → ℕ → A → List A → List A
inserted_at i x us = take i us ++ (x ∷ drop i us)

-- ---- the model's steps, where what does not fit is left out: the pass has refused it before

unfoldable pub if_room : List ActiveTouch → List ActiveTouch → List ActiveTouch
if_room new old = cond (leb (length new) max_touches) new old

-- `on_touch`
unfoldable pub on_touch_if_room : TouchPhase → ActiveTouch → List ActiveTouch → List ActiveTouch
on_touch_if_room ph t us = if_room (on_touch ph t us) us
