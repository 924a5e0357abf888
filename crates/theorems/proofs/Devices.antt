-- Touch devices: those that hold no touch and no gesture answer nothing, so two panels that know different ones, but hold the same touches, answer alike.
-- Assumes nothing.
use Rattle.std.specs.Prelude.{Option, None, Some}
use Prim.Native.Nat.{ℕ, ◌<◌}
use mathlib.Core.Path.{◌≡◌, refl, sym, ap, ◌∙◌}
use mathlib.Core.Bool.{Bool, true, false, ◌||◌, cond, true≢false}
use mathlib.Core.List.{List, [], ◌∷◌, map}
use lib.Dec.{T, eqb, eqb→eq}
use lib.Ieee.{Float}
use Rattle.model.specs.Types.{Pos2, ActiveTouch, GestureState, Event}
use Rattle.model.specs.Touch.{TouchState, new_device, touch_device, at_device, find_device, calc_dynamic_state, update_gesture, forget_previous_if, touch_event, touch_events, end_device, end_touches, touch_pass}
use Rattle.model.specs.Touch.{info, info_of, info_at, first_of, multi_touch, some_touch, any_touches, any_touches_at}
use Rattle.model.specs.Touch.{device_id_of}
use Rattle.model.proofs.Ids.{less, equal, more, order, above_down}
use Rattle.model.proofs.InOrder.{AboveAll, Ascend, TouchView, a_touch, no_touch, touch_view, touch_of, touch_event_is, at_front, at_same, at_more, find_above, event_ascending}

-- ---- a device that holds a touch or a gesture
unfoldable pub has_gesture : Option GestureState → Bool
has_gesture None = false
has_gesture (Some g) = true

unfoldable pub is_live : TouchState → Bool
is_live v = some_touch v.active_touches || has_gesture v.gesture_state

unfoldable pub keep : TouchState → List TouchState → List TouchState
keep v vs = cond (is_live v) (v ∷ vs) vs

-- those devices alone
unfoldable pub live : List TouchState → List TouchState
live [] = []
live (v ∷ vs) = keep v (live vs)

-- a device that is not live is as it was when it became known
pub dead_is : (v : TouchState) → is_live v ≡ false → v ≡ new_device v.device_id
unfolding is_live some_touch has_gesture new_device
dead_is v h = go v.active_touches v.gesture_state h
  where
    go : (ts : List ActiveTouch) (g : Option GestureState) → (some_touch ts || has_gesture g) ≡ false
        → ◌≡◌ {A = TouchState} (record { device_id = v.device_id; active_touches = ts; gesture_state = g }) (record { device_id = v.device_id; active_touches = []; gesture_state = None })
    go [] None h = refl
    go [] (Some g) h = absurd (true≢false h)
    go (t ∷ ts) g h = absurd (true≢false h)

live_yes : (v : TouchState) (vs : List TouchState) → is_live v ≡ true → keep v vs ≡ v ∷ vs
unfolding keep
live_yes v vs e = rw e

pub live_no : (v : TouchState) (vs : List TouchState) → is_live v ≡ false → keep v vs ≡ vs
unfolding keep
live_no v vs e = rw e

pub data Which (b : Bool) : Type 0 where
  on : b ≡ true → Which b
  off : b ≡ false → Which b

pub which : (b : Bool) → Which b
which true = on refl
which false = off refl

live_above : (n : ℕ) (vs : List TouchState) → AboveAll n vs → AboveAll n (live vs)
unfolding live
live_above n [] a = tt
live_above n (v ∷ vs) a =
    elim (which (is_live v)) [
      | on e ↦ rw (live_yes v (live vs) e) (a.0, live_above n vs a.1)
      | off e ↦ rw (live_no v (live vs) e) (live_above n vs a.1)
    ]

live_live : (vs : List TouchState) → live (live vs) ≡ live vs
unfolding live
live_live [] = refl
live_live (v ∷ vs) =
    elim (which (is_live v)) [
      | on e ↦ rw (live_yes v (live vs) e, live_yes v (live (live vs)) e, live_live vs)
      | off e ↦ rw (live_no v (live vs) e, live_live vs)
    ]

live_tail : (v : TouchState) (vs : List TouchState) → live (v ∷ vs) ≡ live (v ∷ live vs)
unfolding live
live_tail v vs = ap (keep v) (sym (live_live vs))

live_at : (d : ℕ) (f : TouchState → TouchState) (vs : List TouchState) → Ascend vs → live (at_device d f vs) ≡ live (at_device d f (live vs))
unfolding live
live_at d f [] a = refl
live_at d f (v ∷ vs) a =
    elim (order d v.device_id) [
      | less l ↦ front l
      | equal e ↦ here e (which (is_live v))
      | more l ↦ on_tail l (live_at d f vs a.1) (which (is_live v))
    ]
  where
    front : d < v.device_id → live (at_device d f (v ∷ vs)) ≡ live (at_device d f (live (v ∷ vs)))
    front l =
        let ab : AboveAll d (v ∷ vs) = (l, above_down device_id_of d v.device_id vs l a.0) in
        ap live (at_front d f (v ∷ vs) ab) ∙ live_tail (f (new_device d)) (v ∷ vs) ∙ ap live (sym (at_front d f (live (v ∷ vs)) (live_above d (v ∷ vs) ab)))

    here : d ≡ v.device_id → Which (is_live v) → live (at_device d f (v ∷ vs)) ≡ live (at_device d f (live (v ∷ vs)))
    here e (on y) =
        ap live (at_same d f v vs e) ∙ live_tail (f v) vs ∙ ap live (sym (at_same d f v (live vs) e))
        ∙ ap (λ (z : List TouchState). live (at_device d f z)) (sym (live_yes v (live vs) y))
    here e (off n) =
        let ab : AboveAll d (live vs) = rw e (live_above v.device_id vs a.0) in
        let u : f v ≡ f (new_device d) = ap f (dead_is v n ∙ ap new_device (sym e)) in
        ap live (at_same d f v vs e) ∙ live_tail (f v) vs ∙ ap (λ (z : TouchState). live (z ∷ live vs)) u ∙ ap live (sym (at_front d f (live vs) ab))
        ∙ ap (λ (z : List TouchState). live (at_device d f z)) (sym (live_no v (live vs) n))

    on_tail : v.device_id < d → live (at_device d f vs) ≡ live (at_device d f (live vs)) → Which (is_live v) → live (at_device d f (v ∷ vs)) ≡ live (at_device d f (live (v ∷ vs)))
    on_tail l ih (on y) =
        ap live (at_more d f v vs l) ∙ ap (keep v) ih ∙ ap live (sym (at_more d f v (live vs) l))
        ∙ ap (λ (z : List TouchState). live (at_device d f z)) (sym (live_yes v (live vs) y))
    on_tail l ih (off n) =
        ap live (at_more d f v vs l) ∙ live_no v (live (at_device d f vs)) n ∙ ih ∙ ap (λ (z : List TouchState). live (at_device d f z)) (sym (live_no v (live vs) n))

-- ---- the events of a feed
-- devices with the same live ones have them after any event
pub event_live : (e : Event) (vs ws : List TouchState) → Ascend vs → Ascend ws → live vs ≡ live ws → live (touch_event e vs) ≡ live (touch_event e ws)
event_live e vs ws a b h = go (touch_view e)
  where
    go : {e : Event} → TouchView e → live (touch_event e vs) ≡ live (touch_event e ws)
    go (a_touch d i ph p f) =
        let g = touch_device ph (touch_of i p f) in
        rw (touch_event_is d i ph p f vs, touch_event_is d i ph p f ws) (live_at d g vs a ∙ ap (λ (z : List TouchState). live (at_device d g z)) h ∙ sym (live_at d g ws b))
    go (no_touch k) = rw (k vs, k ws) h

events_live : (es : List Event) (vs ws : List TouchState) → Ascend vs → Ascend ws → live vs ≡ live ws → live (touch_events es vs) ≡ live (touch_events es ws)
unfolding touch_events
events_live [] vs ws a b h = h
events_live (e ∷ es) vs ws a b h =
    events_live es (touch_event e vs) (touch_event e ws) (event_ascending e vs a) (event_ascending e ws b) (event_live e vs ws a b h)

-- ---- a gesture's step
dead_again : (time : Float) (p : Option Pos2) (es : List Event) (v : TouchState) → is_live v ≡ false → is_live (end_touches time p es v) ≡ false
unfolding end_touches end_device new_device calc_dynamic_state update_gesture forget_previous_if is_live some_touch has_gesture
dead_again time p es v h = rw (dead_is v h)

map_live : (time : Float) (p : Option Pos2) (es : List Event) (vs : List TouchState) → live (map (end_touches time p es) vs) ≡ live (map (end_touches time p es) (live vs))
unfolding live
map_live time p es [] = refl
map_live time p es (v ∷ vs) = go (which (is_live v)) (map_live time p es vs)
  where
    g : TouchState → TouchState
    g = end_touches time p es

    go : Which (is_live v) → live (map g vs) ≡ live (map g (live vs)) → live (map g (v ∷ vs)) ≡ live (map g (live (v ∷ vs)))
    go (on y) ih = ap (keep (g v)) ih ∙ ap (λ (z : List TouchState). live (map g z)) (sym (live_yes v (live vs) y))
    go (off n) ih = live_no (g v) (live (map g vs)) (dead_again time p es v n) ∙ ih ∙ ap (λ (z : List TouchState). live (map g z)) (sym (live_no v (live vs) n))

-- ---- the devices' part of a pass
pub touch_pass_live : (time : Float) (p : Option Pos2) (es : List Event) (vs ws : List TouchState) → Ascend vs → Ascend ws → live vs ≡ live ws → live (touch_pass time p es vs) ≡ live (touch_pass time p es ws)
unfolding touch_pass
touch_pass_live time p es vs ws a b h =
    map_live time p es (touch_events es vs) ∙ ap (λ (z : List TouchState). live (map (end_touches time p es) z)) (events_live es vs ws a b h)
    ∙ sym (map_live time p es (touch_events es ws))

-- ---- what devices answer, those that are not live do not
module _ {A : Type 0} (f : Option TouchState → A) (mute : (v : TouchState) → is_live v ≡ false → f (Some v) ≡ f None) where
  -- an answer that no device gives which is not live is that of the live ones
  pub find_live : (d : ℕ) (vs : List TouchState) → Ascend vs → f (find_device d vs) ≡ f (find_device d (live vs))
  unfolding find_device live
  find_live d [] a = refl
  find_live d (v ∷ vs) a =
      let ih = find_live d vs a.1 in
      elim (which (is_live v)) [
        | on y ↦ rw (live_yes v (live vs) y) (kept (eqb d v.device_id) ih)
        | off n ↦ rw (live_no v (live vs) n) (dropped n (eqb d v.device_id) (eqb→eq d v.device_id) ih)
      ]
    where
      kept : (b : Bool) → f (find_device d vs) ≡ f (find_device d (live vs)) → f (cond b (Some v) (find_device d vs)) ≡ f (cond b (Some v) (find_device d (live vs)))
      kept true ih = refl
      kept false ih = ih

      dropped : is_live v ≡ false → (b : Bool) → (T b → d ≡ v.device_id) → f (find_device d vs) ≡ f (find_device d (live vs))
          → f (cond b (Some v) (find_device d vs)) ≡ f (find_device d (live vs))
      dropped n true e ih = let ab : AboveAll d (live vs) = rw (e tt) (live_above v.device_id vs a.0) in mute v n ∙ ap f (sym (find_above d (live vs) ab))
      dropped n false e ih = ih

mute_info : (v : TouchState) → is_live v ≡ false → info v ≡ None
unfolding info info_of new_device
mute_info v n = rw (dead_is v n)

pub info_live : (d : ℕ) (vs : List TouchState) → Ascend vs → info_at (find_device d vs) ≡ info_at (find_device d (live vs))
unfolding info_at
info_live d vs a = find_live info_at (λ v n. mute_info v n) d vs a

mute_touch : (v : TouchState) → is_live v ≡ false → some_touch v.active_touches ≡ false
unfolding some_touch new_device
mute_touch v n = rw (dead_is v n)

pub any_touches_at_live : (d : ℕ) (vs : List TouchState) → Ascend vs → any_touches_at (find_device d vs) ≡ any_touches_at (find_device d (live vs))
unfolding any_touches_at
any_touches_at_live d vs a = find_live any_touches_at (λ v n. mute_touch v n) d vs a

pub multi_touch_live : (vs : List TouchState) → multi_touch vs ≡ multi_touch (live vs)
unfolding multi_touch live first_of
multi_touch_live [] = refl
multi_touch_live (v ∷ vs) =
    elim (which (is_live v)) [
      | on y ↦ rw (live_yes v (live vs) y) (ap (first_of (info v)) (multi_touch_live vs))
      | off n ↦ rw (live_no v (live vs) n, mute_info v n) (multi_touch_live vs)
    ]

pub any_touches_live : (vs : List TouchState) → any_touches vs ≡ any_touches (live vs)
unfolding any_touches live
any_touches_live [] = refl
any_touches_live (v ∷ vs) =
    elim (which (is_live v)) [
      | on y ↦ rw (live_yes v (live vs) y) (ap (λ (b : Bool). some_touch v.active_touches || b) (any_touches_live vs))
      | off n ↦ rw (live_no v (live vs) n, mute_touch v n) (any_touches_live vs)
    ]
