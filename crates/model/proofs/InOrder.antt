-- Devices stay in order: their ids and their touches' ascend, and what the survey refuses with 5 is what would break the limits. Assumes nothing.
use Rattle.std.specs.Prelude.{Option, None, Some}
use Prim.Native.Nat.{ℕ, suc, ◌≤◌, ◌<◌}
use native.Mathlib.Omega.{arith}
use mathlib.Core.Path.{◌≡◌, refl, sym, ap, ◌∙◌, subst}
use mathlib.Core.Bool.{Bool, true, false, not, ◌&&◌, cond, true≢false}
use mathlib.Core.List.{List, [], ◌∷◌, map}
use lib.ListN.{length, length-map}
use lib.Dec.{T, leb, eqb, eqb→eq, nleb→lt}
use lib.Ieee.{Float}
use Rattle.data.specs.Limits.{max_devices, max_touches}
use Rattle.model.specs.Types.{Pos2, TouchPhase, Start, Move, End, Cancel, ActiveTouch}
use Rattle.model.specs.Types.{Event, Key, ModifiersChanged, PointerMoved, MouseMoved, Button, PointerGone, Zoom, Rotate, Touch, MouseWheel, WindowFocused, Other}
use Rattle.model.specs.Touch.{TouchState, insert_touch, move_touch, remove_touch, holds, on_touch, is_start, no_place, new_device, touch_device, at_device, find_device, touch_event, touch_events, end_device, end_touches, touch_pass}
use Rattle.model.specs.Touch.{Above, Ascending, device_id_of, touch_id_of, TouchesWithin, AllTouchesWithin, InOrder}
use Rattle.model.specs.Pass.{crowded}
use Rattle.model.proofs.Ids.{impossible, eqb_no, eqb_yes, ltb_yes, ltb_no, less, equal, more, order, above_down}

abbrev pub AboveAll : ℕ → List TouchState → Type 0
AboveAll n vs = Above device_id_of n vs

abbrev pub Ascend : List TouchState → Type 0
Ascend vs = Ascending device_id_of vs

-- ---- an event is a touch, or nothing to the devices
pub data TouchView : Event → Type 0 where
  a_touch : (d i : ℕ) (phase : TouchPhase) (pos : Pos2) (force : Option Float) → TouchView (Touch d i phase pos force)
  no_touch : {e : Event} → ((vs : List TouchState) → touch_event e vs ≡ vs) → TouchView e

pub touch_view : (e : Event) → TouchView e
unfolding touch_event
touch_view (Key k b) = no_touch (λ vs. refl)
touch_view (ModifiersChanged m) = no_touch (λ vs. refl)
touch_view (PointerMoved p) = no_touch (λ vs. refl)
touch_view (MouseMoved v) = no_touch (λ vs. refl)
touch_view (Button p b d m) = no_touch (λ vs. refl)
touch_view PointerGone = no_touch (λ vs. refl)
touch_view (Zoom x) = no_touch (λ vs. refl)
touch_view (Rotate x) = no_touch (λ vs. refl)
touch_view (Touch d i ph p f) = a_touch d i ph p f
touch_view (MouseWheel u v ph s m) = no_touch (λ vs. refl)
touch_view (WindowFocused b) = no_touch (λ vs. refl)
touch_view Other = no_touch (λ vs. refl)

abbrev pub touch_of : ℕ → Pos2 → Option Float → ActiveTouch
touch_of i p f = record { id = i; pos = p; force = f }

pub touch_event_is : (d i : ℕ) (ph : TouchPhase) (p : Pos2) (f : Option Float) (vs : List TouchState) → touch_event (Touch d i ph p f) vs ≡ at_device d (touch_device ph (touch_of i p f)) vs
unfolding touch_event
touch_event_is d i ph p f vs = refl

-- ---- a step at one device
module _ (d : ℕ) (f : TouchState → TouchState) where
  pub at_less : (v : TouchState) (vs : List TouchState) → d < v.device_id → at_device d f (v ∷ vs) ≡ f (new_device d) ∷ v ∷ vs
  unfolding at_device
  at_less v vs h = rw (ltb_yes d v.device_id h)

  pub at_same : (v : TouchState) (vs : List TouchState) → d ≡ v.device_id → at_device d f (v ∷ vs) ≡ f v ∷ vs
  unfolding at_device
  at_same v vs h = rw (h, ltb_no v.device_id v.device_id (omega arith), eqb_yes v.device_id)

  pub at_more : (v : TouchState) (vs : List TouchState) → v.device_id < d → at_device d f (v ∷ vs) ≡ v ∷ at_device d f vs
  unfolding at_device
  at_more v vs h = rw (ltb_no d v.device_id (omega arith), eqb_no d v.device_id (λ e. omega arith))

  pub at_front : (vs : List TouchState) → AboveAll d vs → at_device d f vs ≡ f (new_device d) ∷ vs
  unfolding at_device
  at_front [] a = refl
  at_front (v ∷ vs) a = at_less v vs a.0

module _ (d : ℕ) (f : TouchState → TouchState) (keeps : (v : TouchState) → (f v).device_id ≡ v.device_id) where
  new_id : (f (new_device d)).device_id ≡ d
  unfolding new_device
  new_id = keeps (new_device d)

  at_above : (n : ℕ) (vs : List TouchState) → n < d → AboveAll n vs → AboveAll n (at_device d f vs)
  unfolding at_device
  at_above n [] h a = (rw new_id h, tt)
  at_above n (v ∷ vs) h a =
      elim (order d v.device_id) [
        | less l ↦ rw (at_less d f v vs l) (rw new_id h, a)
        | equal e ↦ rw (at_same d f v vs e) (rw (keeps v) a.0, a.1)
        | more l ↦ rw (at_more d f v vs l) (a.0, at_above n vs h a.1)
      ]

  pub at_ascending : (vs : List TouchState) → Ascend vs → Ascend (at_device d f vs)
  unfolding at_device
  at_ascending [] a = (tt, tt)
  at_ascending (v ∷ vs) a =
      elim (order d v.device_id) [
        | less l ↦ rw (at_less d f v vs l) (subst (λ (n : ℕ). AboveAll n (v ∷ vs)) (sym new_id) (l, above_down device_id_of d v.device_id vs l a.0), a)
        | equal e ↦ rw (at_same d f v vs e) (rw (keeps v) a.0, a.1)
        | more l ↦ rw (at_more d f v vs l) (at_above v.device_id vs l a.0, at_ascending vs a.1)
      ]

pub find_above : (d : ℕ) (vs : List TouchState) → AboveAll d vs → find_device d vs ≡ None
unfolding find_device
find_above d [] a = refl
find_above d (v ∷ vs) a = rw (eqb_no d v.device_id (λ e. let x = a.0 in omega arith)) (find_above d vs a.1)

-- ---- touches of one device
abbrev Touches : List ActiveTouch → Type 0
Touches ts = Ascending touch_id_of ts

abbrev AboveTouches : ℕ → List ActiveTouch → Type 0
AboveTouches n ts = Above touch_id_of n ts

insert_less : (t u : ActiveTouch) (us : List ActiveTouch) → t.id < u.id → insert_touch t (u ∷ us) ≡ t ∷ u ∷ us
unfolding insert_touch
insert_less t u us h = rw (ltb_yes t.id u.id h)

insert_same : (t u : ActiveTouch) (us : List ActiveTouch) → t.id ≡ u.id → insert_touch t (u ∷ us) ≡ t ∷ us
unfolding insert_touch
insert_same t u us h = rw (h, ltb_no u.id u.id (omega arith), eqb_yes u.id)

insert_more : (t u : ActiveTouch) (us : List ActiveTouch) → u.id < t.id → insert_touch t (u ∷ us) ≡ u ∷ insert_touch t us
unfolding insert_touch
insert_more t u us h = rw (ltb_no t.id u.id (omega arith), eqb_no t.id u.id (λ e. omega arith))

insert_above : (n : ℕ) (t : ActiveTouch) (us : List ActiveTouch) → n < t.id → AboveTouches n us → AboveTouches n (insert_touch t us)
unfolding insert_touch
insert_above n t [] h a = (h, tt)
insert_above n t (u ∷ us) h a =
    elim (order t.id u.id) [
      | less l ↦ rw (insert_less t u us l) (h, a)
      | equal e ↦ rw (insert_same t u us e) (h, a.1)
      | more l ↦ rw (insert_more t u us l) (a.0, insert_above n t us h a.1)
    ]

insert_ascends : (t : ActiveTouch) (us : List ActiveTouch) → Touches us → Touches (insert_touch t us)
unfolding insert_touch
insert_ascends t [] a = (tt, tt)
insert_ascends t (u ∷ us) a =
    elim (order t.id u.id) [
      | less l ↦ rw (insert_less t u us l) ((l, above_down touch_id_of t.id u.id us l a.0), a)
      | equal e ↦ rw (insert_same t u us e) (rw e a.0, a.1)
      | more l ↦ rw (insert_more t u us l) (insert_above u.id t us l a.0, insert_ascends t us a.1)
    ]

-- a held id is replaced, another is one more
insert_length : (t : ActiveTouch) (us : List ActiveTouch) → length (insert_touch t us) ≤ suc (length us)
unfolding insert_touch
insert_length t [] = omega arith
insert_length t (u ∷ us) =
    elim (order t.id u.id) [
      | less l ↦ rw (insert_less t u us l) (omega arith)
      | equal e ↦ rw (insert_same t u us e) (omega arith)
      | more l ↦ rw (insert_more t u us l) (let h = insert_length t us in omega arith)
    ]

above_not_held : (i : ℕ) (us : List ActiveTouch) → AboveTouches i us → holds i us ≡ false
unfolding holds
above_not_held i [] a = refl
above_not_held i (u ∷ us) a = rw (eqb_no i u.id (λ e. let x = a.0 in omega arith)) (above_not_held i us a.1)

insert_held : (t : ActiveTouch) (us : List ActiveTouch) → Touches us → holds t.id us ≡ true → length (insert_touch t us) ≡ length us
unfolding insert_touch holds
insert_held t [] a h = absurd (true≢false (sym h))
insert_held t (u ∷ us) a h =
    elim (order t.id u.id) [
      | less l ↦ absurd (true≢false (sym h ∙ above_not_held t.id (u ∷ us) (l, above_down touch_id_of t.id u.id us l a.0)))
      | equal e ↦ rw (insert_same t u us e)
      | more l ↦ rw (insert_more t u us l) (ap suc (insert_held t us a.1 (rw (eqb_no t.id u.id (λ e. omega arith)) at h)))
    ]

move_above : (n : ℕ) (t : ActiveTouch) (us : List ActiveTouch) → AboveTouches n us → AboveTouches n (move_touch t us)
unfolding move_touch
move_above n t [] a = tt
move_above n t (u ∷ us) a = go (eqb t.id u.id) (eqb→eq t.id u.id) (move_above n t us a.1)
  where
    go : (b : Bool) → (T b → t.id ≡ u.id) → AboveTouches n (move_touch t us) → AboveTouches n (cond b (t ∷ us) (u ∷ move_touch t us))
    go true e ih = (rw (e tt) a.0, a.1)
    go false e ih = (a.0, ih)

move_ascends : (t : ActiveTouch) (us : List ActiveTouch) → Touches us → Touches (move_touch t us)
unfolding move_touch
move_ascends t [] a = tt
move_ascends t (u ∷ us) a = go (eqb t.id u.id) (eqb→eq t.id u.id) (move_ascends t us a.1)
  where
    go : (b : Bool) → (T b → t.id ≡ u.id) → Touches (move_touch t us) → Touches (cond b (t ∷ us) (u ∷ move_touch t us))
    go true e ih = (rw (e tt) a.0, a.1)
    go false e ih = (move_above u.id t us a.0, ih)

move_length : (t : ActiveTouch) (us : List ActiveTouch) → length (move_touch t us) ≡ length us
unfolding move_touch
move_length t [] = refl
move_length t (u ∷ us) = go (eqb t.id u.id) (move_length t us)
  where
    go : (b : Bool) → length (move_touch t us) ≡ length us → length (cond b (t ∷ us) (u ∷ move_touch t us)) ≡ suc (length us)
    go true ih = refl
    go false ih = ap suc ih

remove_above : (n i : ℕ) (us : List ActiveTouch) → AboveTouches n us → AboveTouches n (remove_touch i us)
unfolding remove_touch
remove_above n i [] a = tt
remove_above n i (u ∷ us) a = go (eqb i u.id) (remove_above n i us a.1)
  where
    go : (b : Bool) → AboveTouches n (remove_touch i us) → AboveTouches n (cond b (remove_touch i us) (u ∷ remove_touch i us))
    go true ih = ih
    go false ih = (a.0, ih)

remove_ascends : (i : ℕ) (us : List ActiveTouch) → Touches us → Touches (remove_touch i us)
unfolding remove_touch
remove_ascends i [] a = tt
remove_ascends i (u ∷ us) a = go (eqb i u.id) (remove_ascends i us a.1)
  where
    go : (b : Bool) → Touches (remove_touch i us) → Touches (cond b (remove_touch i us) (u ∷ remove_touch i us))
    go true ih = ih
    go false ih = (remove_above u.id i us a.0, ih)

remove_length : (i : ℕ) (us : List ActiveTouch) → length (remove_touch i us) ≤ length us
unfolding remove_touch
remove_length i [] = omega arith
remove_length i (u ∷ us) = go (eqb i u.id) (remove_length i us)
  where
    go : (b : Bool) → length (remove_touch i us) ≤ length us → length (cond b (remove_touch i us) (u ∷ remove_touch i us)) ≤ suc (length us)
    go true h = omega arith
    go false h = omega arith

-- a touch event for which there is a place
on_touch_within : (ph : TouchPhase) (t : ActiveTouch) (us : List ActiveTouch) → Touches us → length us ≤ max_touches → (is_start ph && not (holds t.id us) && leb max_touches (length us)) ≡ false
    → Touches (on_touch ph t us) × (length (on_touch ph t us) ≤ max_touches)
unfolding on_touch is_start
on_touch_within Start t us a l h = (insert_ascends t us a, go (holds t.id us) (leb max_touches (length us)) (insert_held t us a) (nleb→lt max_touches (length us)) h)
  where
    go : (held full : Bool) → (held ≡ true → length (insert_touch t us) ≡ length us) → (T (not full) → length us < max_touches) → (not held && full) ≡ false
        → length (insert_touch t us) ≤ max_touches
    go true full k m e = rw (k refl) l
    go false true k m e = absurd (true≢false e)
    go false false k m e = let x = m tt in let y = insert_length t us in omega arith
on_touch_within Move t us a l h = (move_ascends t us a, rw (move_length t us) l)
on_touch_within End t us a l h = (remove_ascends t.id us a, (let y = remove_length t.id us in omega arith))
on_touch_within Cancel t us a l h = (remove_ascends t.id us a, (let y = remove_length t.id us in omega arith))

-- ---- devices
module _ (d : ℕ) (f : TouchState → TouchState) where
  at_within : (vs : List TouchState) → Ascend vs → AllTouchesWithin vs → (find_device d vs ≡ None → TouchesWithin (f (new_device d))) → ((v : TouchState) → find_device d vs ≡ Some v → TouchesWithin v → TouchesWithin (f v))
      → AllTouchesWithin (at_device d f vs)
  unfolding at_device find_device
  at_within [] a w new old = (new refl, tt)
  at_within (v ∷ vs) a w new old =
      elim (order d v.device_id) [
        | less l ↦ rw (at_less d f v vs l) (new (find_above d (v ∷ vs) (l, above_down device_id_of d v.device_id vs l a.0)), w)
        | equal e ↦ rw (at_same d f v vs e) (old v (rw (e, eqb_yes v.device_id)) w.0, w.1)
        | more l ↦
            let n = eqb_no d v.device_id (λ e. omega arith) in
            rw (at_more d f v vs l) (w.0, at_within vs a.1 w.1 (λ k. new (rw n k)) (λ u k. old u (rw n k)))
      ]

  data Counted (vs : List TouchState) : Type 0 where
    known : length (at_device d f vs) ≡ length vs → Counted vs
    unknown : length (at_device d f vs) ≡ suc (length vs) → find_device d vs ≡ None → Counted vs

  counted : (vs : List TouchState) → Ascend vs → Counted vs
  unfolding at_device find_device
  counted [] a = unknown refl refl
  counted (v ∷ vs) a =
      elim (order d v.device_id) [
        | less l ↦ unknown (ap length (at_less d f v vs l)) (find_above d (v ∷ vs) (l, above_down device_id_of d v.device_id vs l a.0))
        | equal e ↦ known (ap length (at_same d f v vs e))
        | more l ↦ further l (counted vs a.1)
      ]
    where
      further : v.device_id < d → Counted vs → Counted (v ∷ vs)
      further l (known e) = known (ap length (at_more d f v vs l) ∙ ap suc e)
      further l (unknown e n) = unknown (ap length (at_more d f v vs l) ∙ ap suc e) (rw (eqb_no d v.device_id (λ x. omega arith)) n)

  at_length : (vs : List TouchState) → Ascend vs → length vs ≤ max_devices → (find_device d vs ≡ None → length vs < max_devices) → length (at_device d f vs) ≤ max_devices
  at_length vs a l h = go (counted vs a)
    where
      go : Counted vs → length (at_device d f vs) ≤ max_devices
      go (known e) = rw e l
      go (unknown e n) = let k = h n in rw e (omega arith)

-- ---- an event that finds a place
pub keeps_id : (ph : TouchPhase) (t : ActiveTouch) (v : TouchState) → (touch_device ph t v).device_id ≡ v.device_id
unfolding touch_device
keeps_id ph t v = refl

pub touch_in_order : (d : ℕ) (ph : TouchPhase) (t : ActiveTouch) (vs : List TouchState) → InOrder vs → no_place ph t.id (length vs) (find_device d vs) ≡ false → InOrder (at_device d (touch_device ph t) vs)
unfolding no_place touch_device new_device is_start holds
touch_in_order d ph t vs w h =
    record {
      ascend = at_ascending d (touch_device ph t) (keeps_id ph t) vs w.ascend;
      limit = at_length d (touch_device ph t) vs w.ascend w.limit (λ n. few_enough n (find_device d vs) h n);
      touches = at_within d (touch_device ph t) vs w.ascend w.touches (λ n. new) (λ v e k. old v (subst (λ (o : Option TouchState). no_place ph t.id (length vs) o ≡ false) e h) k);
    }
  where
    few_enough : find_device d vs ≡ None → (o : Option TouchState) → no_place ph t.id (length vs) o ≡ false → o ≡ None → length vs < max_devices
    few_enough n None e m = nleb→lt max_devices (length vs) (subst (λ (b : Bool). T (not b)) (sym e) tt)
    few_enough n (Some v) e m = impossible (cc)

    new : TouchesWithin (touch_device ph t (new_device d))
    new =
        let z = on_touch_within ph t [] tt (omega arith) (empty ph) in
        record { ascend = z.0; limit = z.1 }
      where
        empty : (ph : TouchPhase) → (is_start ph && not (holds t.id []) && leb max_touches 0) ≡ false
        empty Start = refl
        empty Move = refl
        empty End = refl
        empty Cancel = refl

    old : (v : TouchState) → no_place ph t.id (length vs) (Some v) ≡ false → TouchesWithin v → TouchesWithin (touch_device ph t v)
    old v e k =
        let z = on_touch_within ph t v.active_touches k.ascend k.limit e in
        record { ascend = z.0; limit = z.1 }

pub event_in_order : (e : Event) (vs : List TouchState) → InOrder vs → crowded e vs ≡ false → InOrder (touch_event e vs)
unfolding crowded
event_in_order e vs w h = go (touch_view e) h
  where
    go : {e : Event} → TouchView e → crowded e vs ≡ false → InOrder (touch_event e vs)
    go (a_touch d i ph p f) k = rw (touch_event_is d i ph p f vs) (touch_in_order d ph (touch_of i p f) vs w k)
    go (no_touch n) k = rw (n vs) w

-- ---- the order of ids alone, whatever is held
pub event_ascending : (e : Event) (vs : List TouchState) → Ascend vs → Ascend (touch_event e vs)
event_ascending e vs a = go (touch_view e)
  where
    go : {e : Event} → TouchView e → Ascend (touch_event e vs)
    go (a_touch d i ph p f) = rw (touch_event_is d i ph p f vs) (at_ascending d (touch_device ph (touch_of i p f)) (keeps_id ph (touch_of i p f)) vs a)
    go (no_touch k) = rw (k vs) a

pub events_ascending : (es : List Event) (vs : List TouchState) → Ascend vs → Ascend (touch_events es vs)
unfolding touch_events
events_ascending [] vs a = a
events_ascending (e ∷ es) vs a = events_ascending es (touch_event e vs) (event_ascending e vs a)

-- ---- the end of a pass
map_above : (time : Float) (p : Option Pos2) (es : List Event) (n : ℕ) (vs : List TouchState) → AboveAll n vs → AboveAll n (map (end_touches time p es) vs)
unfolding end_touches end_device
map_above time p es n [] a = tt
map_above time p es n (v ∷ vs) a = (a.0, map_above time p es n vs a.1)

pub map_ascending : (time : Float) (p : Option Pos2) (es : List Event) (vs : List TouchState) → Ascend vs → Ascend (map (end_touches time p es) vs)
unfolding end_touches end_device
map_ascending time p es [] a = tt
map_ascending time p es (v ∷ vs) a = (map_above time p es v.device_id vs a.0, map_ascending time p es vs a.1)

map_within : (time : Float) (p : Option Pos2) (es : List Event) (vs : List TouchState) → AllTouchesWithin vs → AllTouchesWithin (map (end_touches time p es) vs)
unfolding end_touches end_device
map_within time p es [] w = tt
map_within time p es (v ∷ vs) w = (record { ascend = w.0.ascend; limit = w.0.limit }, map_within time p es vs w.1)

pub end_in_order : (time : Float) (p : Option Pos2) (es : List Event) (vs : List TouchState) → InOrder vs → InOrder (map (end_touches time p es) vs)
end_in_order time p es vs o =
    record {
      ascend = map_ascending time p es vs o.ascend;
      limit = rw (length-map vs (end_touches time p es)) o.limit;
      touches = map_within time p es vs o.touches;
    }

-- ---- a fresh panel has no devices
pub none_in_order : InOrder []
none_in_order = record { ascend = tt; limit = omega arith; touches = tt }

pub touch_pass_ascending : (time : Float) (p : Option Pos2) (es : List Event) (vs : List TouchState) → Ascend vs → Ascend (touch_pass time p es vs)
unfolding touch_pass
touch_pass_ascending time p es vs a = map_ascending time p es (touch_events es vs) (events_ascending es vs a)
