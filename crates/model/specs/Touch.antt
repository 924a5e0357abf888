-- touch_state.rs: touch devices, ascending by id, each with its touches, ascending by id, and its gesture. Definitions only.
use Rattle.std.specs.Prelude.{ℕ, ◌≤◌, ◌<◌, Bool, true, false, not, ◌&&◌, ◌||◌, cond, List, [], ◌∷◌, map, pos, length, leb, ltb, eqb, Float, Option, None, Some}
use Rattle.std.specs.Float.{binary32}
use Rattle.std.specs.Float.Ieee.{add, sub, mul, div, lt, of_int}
use Rattle.emath.specs.Vec.{vec_zero, pos_zero, pos_sub, vec_add, distance, abs, vec_abs}
use Rattle.data.specs.Limits.{max_devices, max_touches}
use Rattle.model.specs.Numbers.{+0, one, three}
use Rattle.model.specs.Types.{Pos2, Vec2, TouchPhase, Start, Move, End, Cancel}
use Rattle.model.specs.Types.{ActiveTouch, PinchType, Horizontal, Vertical, Proportional, DynGestureState}
use Rattle.model.specs.Types.{GestureState, MultiTouchInfo}
use Rattle.model.specs.Types.{Event, Key, ModifiersChanged, PointerMoved, MouseMoved, Button, PointerGone, Zoom, Rotate, Touch, MouseWheel, WindowFocused, Other}

-- `TouchState`: a device and what it holds
pub record TouchState : Type 0 where
  pub device_id : ℕ
  pub active_touches : List ActiveTouch
  pub gesture_state : Option GestureState

-- ---- touches by ascending id

-- `insert` of a BTreeMap: a held id is replaced
unfoldable pub insert_touch : ActiveTouch → List ActiveTouch → List ActiveTouch
insert_touch t [] = t ∷ []
insert_touch t (u ∷ us) = cond (ltb t.id u.id) (t ∷ u ∷ us) (cond (eqb t.id u.id) (t ∷ us) (u ∷ insert_touch t us))

-- `get_mut`, and its position and force stored: an unheld id does nothing
unfoldable pub move_touch : ActiveTouch → List ActiveTouch → List ActiveTouch
move_touch t [] = []
move_touch t (u ∷ us) = cond (eqb t.id u.id) (t ∷ us) (u ∷ move_touch t us)

-- `remove`
unfoldable pub remove_touch : ℕ → List ActiveTouch → List ActiveTouch
remove_touch i [] = []
remove_touch i (u ∷ us) = cond (eqb i u.id) (remove_touch i us) (u ∷ remove_touch i us)

unfoldable pub holds : ℕ → List ActiveTouch → Bool
holds i [] = false
holds i (u ∷ us) = eqb i u.id || holds i us

-- a touch event, by phase
unfoldable pub on_touch : TouchPhase → ActiveTouch → List ActiveTouch → List ActiveTouch
on_touch Start t us = insert_touch t us
on_touch Move t us = move_touch t us
on_touch End t us = remove_touch t.id us
on_touch Cancel t us = remove_touch t.id us

-- ---- devices by ascending id

-- `TouchState::new`
unfoldable pub new_device : ℕ → TouchState
new_device d = record { device_id = d; active_touches = []; gesture_state = None }

unfoldable pub touch_device : TouchPhase → ActiveTouch → TouchState → TouchState
touch_device ph t v = record { device_id = v.device_id; active_touches = on_touch ph t v.active_touches; gesture_state = v.gesture_state }

-- `entry(d).or_insert_with(..)`, and f of what is there
unfoldable pub at_device : ℕ → (TouchState → TouchState) → List TouchState → List TouchState
at_device d f [] = f (new_device d) ∷ []
at_device d f (v ∷ vs) = cond (ltb d v.device_id) (f (new_device d) ∷ v ∷ vs) (cond (eqb d v.device_id) (f v ∷ vs) (v ∷ at_device d f vs))

unfoldable pub find_device : ℕ → List TouchState → Option TouchState
find_device d [] = None
find_device d (v ∷ vs) = cond (eqb d v.device_id) (Some v) (find_device d vs)

unfoldable pub is_start : TouchPhase → Bool
is_start Start = true
is_start Move = false
is_start End = false
is_start Cancel = false

-- 01, refusal 5: "a fifth device, or Start of an eleventh touch", of n devices and the event's own, if it is known
unfoldable pub no_place : TouchPhase → ℕ → ℕ → Option TouchState → Bool
no_place ph i n None = leb max_devices n
no_place ph i n (Some v) = is_start ph && not (holds i v.active_touches) && leb max_touches (length v.active_touches)

-- ---- devices in order: so they are in every panel reached (theorems `Reach`), and a pass keeps them so

-- every id is above n
abbrev pub Above : {A : Type 0} → (A → ℕ) → ℕ → List A → Type 0
Above id n [] = Unit {0}
Above id n (x ∷ xs) = (n < id x) × Above id n xs

-- ids ascend, without repeats
abbrev pub Ascending : {A : Type 0} → (A → ℕ) → List A → Type 0
Ascending id [] = Unit {0}
Ascending id (x ∷ xs) = Above id (id x) xs × Ascending id xs

abbrev pub device_id_of : TouchState → ℕ
device_id_of v = v.device_id

abbrev pub touch_id_of : ActiveTouch → ℕ
touch_id_of t = t.id

-- of a device: its touches ascend; 01: "10 touches held per device"
pub record TouchesWithin (v : TouchState) : Type 0 where
  pub ascend : Ascending touch_id_of v.active_touches
  pub limit : length v.active_touches ≤ max_touches

abbrev pub AllTouchesWithin : List TouchState → Type 0
AllTouchesWithin [] = Unit {0}
AllTouchesWithin (v ∷ vs) = TouchesWithin v × AllTouchesWithin vs

-- of the devices: "Touches go by ascending id", and so do devices; "4 devices ever"
pub record InOrder (vs : List TouchState) : Type 0 where
  pub ascend : Ascending device_id_of vs
  pub limit : length vs ≤ max_devices
  pub touches : AllTouchesWithin vs

-- ---- the averages of a gesture: `calc_dynamic_state`

-- `force.unwrap_or(0.0)`
unfoldable pub force_or_zero : Option Float → Float
force_or_zero None = +0
force_or_zero (Some x) = x

unfoldable pub sum_force : Float → List ActiveTouch → Float
sum_force a [] = a
sum_force a (t ∷ ts) = sum_force (add binary32 a (force_or_zero t.force)) ts

unfoldable pub sum_pos : Pos2 → List ActiveTouch → Pos2
sum_pos a [] = a
sum_pos a (t ∷ ts) = sum_pos (record { x = add binary32 a.x t.pos.x; y = add binary32 a.y t.pos.y }) ts

unfoldable pub sum_distance : Pos2 → Float → List ActiveTouch → Float
sum_distance c a [] = a
sum_distance c a (t ∷ ts) = sum_distance c (add binary32 a (distance c t.pos)) ts

unfoldable pub sum_abs_distance2 : Pos2 → Vec2 → List ActiveTouch → Vec2
sum_abs_distance2 c a [] = a
sum_abs_distance2 c a (t ∷ ts) = sum_abs_distance2 c (vec_add a (vec_abs (pos_sub c t.pos))) ts

-- `num_touches_recip`, rounded
unfoldable pub recip : ℕ → Float
recip n = div binary32 one (of_int binary32 (pos n))

-- the averages around the centre c, with the reciprocal r: the heading is from the first touch
unfoldable pub averages : Pos2 → Float → ActiveTouch → List ActiveTouch → DynGestureState
averages c r t ts =
    record {
      avg_distance = mul binary32 (sum_distance c +0 (t ∷ ts)) r;
      avg_abs_distance2 = record { x = mul binary32 (sum_abs_distance2 c vec_zero (t ∷ ts)).x r; y = mul binary32 (sum_abs_distance2 c vec_zero (t ∷ ts)).y r };
      avg_pos = c;
      avg_force = mul binary32 (sum_force +0 (t ∷ ts)) r;
      heading = pos_sub c t.pos;
    }

unfoldable pub center : Float → List ActiveTouch → Pos2
center r ts = record { x = mul binary32 (sum_pos pos_zero ts).x r; y = mul binary32 (sum_pos pos_zero ts).y r }

-- `calc_dynamic_state`: none of less than two fingers
unfoldable pub calc_dynamic_state : List ActiveTouch → Option DynGestureState
calc_dynamic_state [] = None
calc_dynamic_state (t ∷ []) = None
calc_dynamic_state (t ∷ u ∷ us) =
    let r = recip (length (t ∷ u ∷ us)) in
    Some (averages (center r (t ∷ u ∷ us)) r t (u ∷ us))

-- ---- `PinchType::classify`

unfoldable pub classify_by : Float → Float → PinchType
classify_by dx dy = cond (lt (mul binary32 three dy) dx) Horizontal (cond (lt (mul binary32 three dx) dy) Vertical Proportional)

unfoldable pub classify : List ActiveTouch → PinchType
classify [] = Proportional
classify (t ∷ []) = Proportional
classify (t ∷ u ∷ []) = classify_by (abs (sub binary32 t.pos.x u.pos.x)) (abs (sub binary32 t.pos.y u.pos.y))
classify (t ∷ u ∷ v ∷ vs) = Proportional

-- ---- the gesture's step

-- `update_gesture`: new averages, and `pointer_pos`, the pointer's interact position of the pass before
unfoldable pub update_gesture : Float → PinchType → Option DynGestureState → Option Pos2 → Option GestureState → Option GestureState
update_gesture time k None p g = None
update_gesture time k (Some a) p (Some g) =
    Some (record { start_time = g.start_time; start_pointer_pos = g.start_pointer_pos; pinch_type = g.pinch_type; previous = Some g.current; current = a })
update_gesture time k (Some a) None None = None
update_gesture time k (Some a) (Some p) None =
    Some (record { start_time = time; start_pointer_pos = p; pinch_type = k; previous = None; current = a })

-- where touches were added or removed, the previous averages are forgotten
unfoldable pub forget_previous_if : Bool → Option GestureState → Option GestureState
forget_previous_if b None = None
forget_previous_if false (Some g) = Some g
forget_previous_if true (Some g) =
    Some (record { start_time = g.start_time; start_pointer_pos = g.start_pointer_pos; pinch_type = g.pinch_type; previous = None; current = g.current })

unfoldable pub adds_or_removes : TouchPhase → Bool
adds_or_removes Start = true
adds_or_removes Move = false
adds_or_removes End = true
adds_or_removes Cancel = true

-- `added_or_removed_touches` of device d
unfoldable pub added_or_removed_touches : ℕ → List Event → Bool
added_or_removed_touches d [] = false
added_or_removed_touches d (Key k b ∷ es) = added_or_removed_touches d es
added_or_removed_touches d (ModifiersChanged m ∷ es) = added_or_removed_touches d es
added_or_removed_touches d (PointerMoved p ∷ es) = added_or_removed_touches d es
added_or_removed_touches d (MouseMoved v ∷ es) = added_or_removed_touches d es
added_or_removed_touches d (Button p b q m ∷ es) = added_or_removed_touches d es
added_or_removed_touches d (PointerGone ∷ es) = added_or_removed_touches d es
added_or_removed_touches d (Zoom x ∷ es) = added_or_removed_touches d es
added_or_removed_touches d (Rotate x ∷ es) = added_or_removed_touches d es
added_or_removed_touches d (Touch c i ph p f ∷ es) = (eqb c d && adds_or_removes ph) || added_or_removed_touches d es
added_or_removed_touches d (MouseWheel u v ph s m ∷ es) = added_or_removed_touches d es
added_or_removed_touches d (WindowFocused b ∷ es) = added_or_removed_touches d es
added_or_removed_touches d (Other ∷ es) = added_or_removed_touches d es

-- the pass's events, as far as the devices read them: a touch event of any phase makes its device known
unfoldable pub touch_event : Event → List TouchState → List TouchState
touch_event (Key k b) vs = vs
touch_event (ModifiersChanged m) vs = vs
touch_event (PointerMoved p) vs = vs
touch_event (MouseMoved v) vs = vs
touch_event (Button p b d m) vs = vs
touch_event PointerGone vs = vs
touch_event (Zoom x) vs = vs
touch_event (Rotate x) vs = vs
touch_event (Touch d i ph p f) vs = at_device d (touch_device ph (record { id = i; pos = p; force = f })) vs
touch_event (MouseWheel u v ph s m) vs = vs
touch_event (WindowFocused b) vs = vs
touch_event Other vs = vs

unfoldable pub touch_events : List Event → List TouchState → List TouchState
touch_events [] vs = vs
touch_events (e ∷ es) vs = touch_events es (touch_event e vs)

-- `begin_pass` after its loop over the events: were touches added or removed in it?
unfoldable pub end_device : Float → Option Pos2 → Bool → TouchState → TouchState
end_device time p added-or-removed v =
    record {
      device_id = v.device_id;
      active_touches = v.active_touches;
      gesture_state =
          forget_previous_if added-or-removed
          (update_gesture time (classify v.active_touches) (calc_dynamic_state v.active_touches) p v.gesture_state);
    }

-- of the pass's events
unfoldable pub end_touches : Float → Option Pos2 → List Event → TouchState → TouchState
end_touches time p es v = end_device time p (added_or_removed_touches v.device_id es) v

-- the devices' part of a pass: egui's `begin_pass` of every device
unfoldable pub touch_pass : Float → Option Pos2 → List Event → List TouchState → List TouchState
touch_pass time p es vs = map (end_touches time p es) (touch_events es vs)

-- ---- `info`

-- `previous.unwrap_or(current)`
unfoldable pub state_previous : Option DynGestureState → DynGestureState → DynGestureState
state_previous None a = a
state_previous (Some b) a = b

-- a zoom divides a spread by the one before
unfoldable pub zoom_quotient : Float → Float → Float
zoom_quotient current previous = div binary32 current previous

-- `zoom_delta_2d`, of the averages before and now
unfoldable pub zoom_delta_2d : PinchType → DynGestureState → DynGestureState → Vec2
zoom_delta_2d Horizontal b a = record { x = zoom_quotient a.avg_abs_distance2.x b.avg_abs_distance2.x; y = one }
zoom_delta_2d Vertical b a = record { x = one; y = zoom_quotient a.avg_abs_distance2.y b.avg_abs_distance2.y }
zoom_delta_2d Proportional b a = record { x = zoom_quotient a.avg_distance b.avg_distance; y = zoom_quotient a.avg_distance b.avg_distance }

unfoldable pub info_from : ℕ → GestureState → DynGestureState → MultiTouchInfo
info_from n g b =
    record {
      start_time = g.start_time;
      start_pos = g.start_pointer_pos;
      center_pos = g.current.avg_pos;
      num_touches = n;
      zoom_delta = zoom_quotient g.current.avg_distance b.avg_distance;
      zoom_delta_2d = zoom_delta_2d g.pinch_type b g.current;
      previous_heading = b.heading;
      heading = g.current.heading;
      translation_delta = pos_sub g.current.avg_pos b.avg_pos;
      force = g.current.avg_force;
    }

unfoldable pub info_of : ℕ → Option GestureState → Option MultiTouchInfo
info_of n None = None
info_of n (Some g) = Some (info_from n g (state_previous g.previous g.current))

-- `TouchState::info`
unfoldable pub info : TouchState → Option MultiTouchInfo
info v = info_of (length v.active_touches) v.gesture_state

-- of the device with an id: an unknown one answers none
unfoldable pub info_at : Option TouchState → Option MultiTouchInfo
info_at None = None
info_at (Some v) = info v

unfoldable pub first_of : Option MultiTouchInfo → Option MultiTouchInfo → Option MultiTouchInfo
first_of None b = b
first_of (Some a) b = Some a

-- `multi_touch`: of the first device by id that has one
unfoldable pub multi_touch : List TouchState → Option MultiTouchInfo
multi_touch [] = None
multi_touch (v ∷ vs) = first_of (info v) (multi_touch vs)

unfoldable pub some_touch : List ActiveTouch → Bool
some_touch [] = false
some_touch (t ∷ ts) = true

-- `InputState::any_touches`
unfoldable pub any_touches : List TouchState → Bool
any_touches [] = false
any_touches (v ∷ vs) = some_touch v.active_touches || any_touches vs

-- `TouchState::any_touches` of the device with an id
unfoldable pub any_touches_at : Option TouchState → Bool
any_touches_at None = false
any_touches_at (Some v) = some_touch v.active_touches

-- `has_touch_screen`
unfoldable pub has_touch_screen : List TouchState → Bool
has_touch_screen [] = false
has_touch_screen (v ∷ vs) = true
