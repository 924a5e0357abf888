-- A panel after the clearing pass: all but a few parts is the clearing pass's own doing, and no touch is held. Assumes nothing.
use Rattle.std.specs.Prelude.{Option, None, Some}
use Prim.Native.Nat.{ℕ}
use native.Mathlib.Omega.{arith}
use mathlib.Core.Path.{◌≡◌, refl, sym, ap, ◌∙◌}
use mathlib.Core.Bool.{Bool, true, false, ◌&&◌, ◌||◌, cond, true≢false}
use mathlib.Core.List.{List, [], ◌∷◌, ◌++◌, map}
use lib.Dec.{T, eqb}
use lib.Ieee.{Float}
use Rattle.emath.specs.Vec.{vec_zero, vec_add, normalized}
use Rattle.emath.specs.History.{velocity}
use Rattle.data.specs.Modifiers.{no_modifiers}
use Rattle.model.specs.Numbers.{+0, one}
use Rattle.model.specs.Types.{Vec2, Rect, InputOptions, Pos2, PointerEvent, WheelState, End, ActiveTouch, Event, WindowFocused}
use Rattle.model.specs.Pointer.{Place, unwrap_or_default, zero_motion, add_motion, with_place, place_event, place_events, clear_history_after, start_place, delta_of, finish_place, end_place, place_pass}
use Rattle.model.specs.Pointer.{CountTrue, ClickPast, Press, no_buttons, release_button, release, press_event, press_events, clear_events, press_pass}
use Rattle.model.specs.Touch.{TouchState, remove_touch, on_touch, new_device, touch_device, at_device, some_touch, calc_dynamic_state, update_gesture, forget_previous_if, touch_event, touch_events, end_device, end_touches, touch_pass}
use Rattle.model.specs.Wheel.{on_phase, on_wheel_event, wheel_event, wheel_events, stopped_wheel, after_events, clear_smooth, wheel_pass}
use Rattle.model.specs.Pass.{Panel, PassInput, Keys, Interaction, Tally, fresh, pass_events, key_event, key_events, is_empty, keys_pass, zoom_event, zoom_of, rotation_event, rotation_of, sums_of, time_or, time_of, rect_or, clock_pass, screen_pass, begin_pass}
use Rattle.theorems.specs.Clearing.{TouchEnd, end_event, is_ended, EndsTouches, EndsAll, Rest, rest_events}
use Rattle.model.proofs.Ids.{eqb_no, eqb_yes, less, equal, more, order, above_down}
use Rattle.model.specs.Touch.{device_id_of}
use Rattle.model.proofs.InOrder.{Ascend, AboveAll, at_less, at_same, at_more, event_ascending}
use Rattle.theorems.proofs.Counts.{all_up_is}
use Rattle.theorems.proofs.Devices.{has_gesture, is_live, live, live_no}

-- ---- the Ends change nothing but touches
abbrev pub ends_then : List TouchEnd → List Event → List Event
ends_then es r = map end_event es ++ r

place_ends : (es : List TouchEnd) (r : List Event) (p : Place) → place_events (ends_then es r) p ≡ place_events r p
unfolding place_events place_event
place_ends [] r p = refl
place_ends (e ∷ es) r p = place_ends es r p

pub press_ends : (o : InputOptions) (time : Float) (es : List TouchEnd) (r : List Event) (s : Press) → press_events o time (ends_then es r) s ≡ press_events o time r s
unfolding press_events press_event
press_ends o time [] r s = refl
press_ends o time (e ∷ es) r s = press_ends o time es r s

history_ends : (es : List TouchEnd) (r : List Event) → clear_history_after (ends_then es r) ≡ clear_history_after r
unfolding clear_history_after
history_ends [] r = refl
history_ends (e ∷ es) r = history_ends es r

wheel_ends : (c : Rect) (o : InputOptions) (time : Float) (es : List TouchEnd) (r : List Event) (w : WheelState) → wheel_events c o time (ends_then es r) w ≡ wheel_events c o time r w
unfolding wheel_events wheel_event
wheel_ends c o time [] r w = refl
wheel_ends c o time (e ∷ es) r w = wheel_ends c o time es r w

key_ends : (es : List TouchEnd) (r : List Event) (s : Keys) → key_events (ends_then es r) s ≡ key_events r s
unfolding key_events key_event
key_ends [] r s = refl
key_ends (e ∷ es) r s = key_ends es r s

zoom_ends : (es : List TouchEnd) (r : List Event) (x : Float) → zoom_of (ends_then es r) x ≡ zoom_of r x
unfolding zoom_of zoom_event
zoom_ends [] r x = refl
zoom_ends (e ∷ es) r x = zoom_ends es r x

rotation_ends : (es : List TouchEnd) (r : List Event) (x : Float) → rotation_of (ends_then es r) x ≡ rotation_of r x
unfolding rotation_of rotation_event
rotation_ends [] r x = refl
rotation_ends (e ∷ es) r x = rotation_ends es r x

not_empty : (es : List TouchEnd) (r : Rest) → is_empty (ends_then es (rest_events r)) ≡ false
unfolding is_empty
not_empty [] r = refl
not_empty (e ∷ es) r = refl

-- ---- what of a panel the clearing pass does not decide
pub record Undecided : Type 0 where
  pub unstable_dt : Float
  pub stable_dt : Float
  pub velocity : Vec2
  pub pointer_events : List PointerEvent
  pub past : ClickPast
  pub started_decidedly_dragging : Bool
  pub last_move_time : Option Float
  pub touch_states : List TouchState
  pub tally : Tally

unfoldable pub cleared_wheel : PassInput → Float → Rest → WheelState
cleared_wheel c tc r = after_events tc c.smoothing_factor (stopped_wheel tc r.wheel_source)

-- focus lost: no key down, no modifier, no press
unfoldable pub cleared_keys : Keys
cleared_keys = keys_pass (WindowFocused false ∷ []) fresh.keys

abbrev cleared_place : Rest → Vec2 → Place
cleared_place r v =
    record {
      latest_pos = None;
      interact_pos = Some r.pos;
      delta = vec_zero;
      motion = Some (vec_add vec_zero r.motion);
      velocity = v;
      direction = normalized (unwrap_or_default (velocity []));
      pos_history = [];
    }

abbrev cleared_press : List PointerEvent → ClickPast → Press
cleared_press es a = record { held = record { down = no_buttons; press_origin = None; press_start_time = None; pointer_events = es }; past = a }

-- the panel that it leaves, with what it does not decide and an interaction
unfoldable pub cleared_panel : PassInput → Float → Rect → Rest → Undecided → Interaction → Panel
cleared_panel c tc rect r w d =
    record {
      clock = record { time = tc; pointer_time = tc; unstable_dt = w.unstable_dt; stable_dt = w.stable_dt; predicted_dt = c.predicted_dt };
      screen = record { viewport_rect = rect; pixels_per_point = c.pixels_per_point; focused = c.focused; options = c.options };
      place = cleared_place r w.velocity;
      press = cleared_press w.pointer_events w.past;
      started_decidedly_dragging = w.started_decidedly_dragging;
      last_move_time = w.last_move_time;
      touch_states = w.touch_states;
      wheel = cleared_wheel c tc r;
      keys = cleared_keys;
      sums = sums_of c.options [] (cleared_wheel c tc r);
      interaction = d;
      tally = w.tally;
    }

-- ---- part by part
delta_gone : (a : Option Pos2) → delta_of a None ≡ vec_zero
unfolding delta_of
delta_gone None = refl
delta_gone (Some a) = refl

motion_only : (v : Vec2) (a : Option Vec2) → add_motion v (zero_motion a) ≡ Some (vec_add vec_zero v)
unfolding add_motion zero_motion
motion_only v None = refl
motion_only v (Some a) = refl

place_rest : (time : Float) (r : Rest) (l : Place)
    → end_place time l.latest_pos true (place_events (rest_events r) (start_place l))
    ≡ cleared_place r (end_place time l.latest_pos true (place_events (rest_events r) (start_place l))).velocity
unfolding end_place finish_place place_events place_event with_place start_place
place_rest time r l =
    let q = end_place time l.latest_pos true (place_events (rest_events r) (start_place l)) in
    λ j. record {
      latest_pos = None;
      interact_pos = Some r.pos;
      delta = delta_gone l.latest_pos j;
      motion = motion_only r.motion l.motion j;
      velocity = q.velocity;
      direction = normalized (unwrap_or_default (velocity []));
      pos_history = [];
    }

place_clears : (time : Float) (es : List TouchEnd) (r : Rest) (l : Place) → place_pass time (ends_then es (rest_events r)) l ≡ cleared_place r (place_pass time (ends_then es (rest_events r)) l).velocity
unfolding place_pass clear_history_after
place_clears time es r l =
    let e : place_pass time (ends_then es (rest_events r)) l ≡ end_place time l.latest_pos true (place_events (rest_events r) (start_place l)) =
    rw (history_ends es (rest_events r), place_ends es (rest_events r)) in
    e ∙ place_rest time r l ∙ ap (λ (z : Place). cleared_place r z.velocity) (sym e)

press_rest : (o : InputOptions) (time : Float) (r : Rest) (s : Press) → CountTrue s.held.down
    → press_events o time (rest_events r) s ≡ cleared_press (press_events o time (rest_events r) s).held.pointer_events (press_events o time (rest_events r) s).past
unfolding press_events press_event release release_button
press_rest o time r s h =
    let z = press_events o time (rest_events r) s in
    λ j. record { held = record { down = all_up_is s.held.down h j; press_origin = None; press_start_time = None; pointer_events = z.held.pointer_events }; past = z.past }

press_clears : (o : InputOptions) (time : Float) (es : List TouchEnd) (r : Rest) (s : Press) → CountTrue s.held.down
    → press_pass o time (ends_then es (rest_events r)) s
    ≡ cleared_press (press_pass o time (ends_then es (rest_events r)) s).held.pointer_events (press_pass o time (ends_then es (rest_events r)) s).past
unfolding press_pass clear_events
press_clears o time es r s h =
    let u : Press = record { held = clear_events s.held; past = s.past } in
    let e : press_pass o time (ends_then es (rest_events r)) s ≡ press_events o time (rest_events r) u = press_ends o time es (rest_events r) u in
    e ∙ press_rest o time r u h ∙ ap (λ (z : Press). cleared_press z.held.pointer_events z.past) (sym e)

wheel_clears : (c : PassInput) (rect : Rect) (time : Float) (es : List TouchEnd) (r : Rest) (w : WheelState)
    → wheel_pass rect c.options time c.smoothing_factor (ends_then es (rest_events r)) w ≡ cleared_wheel c time r
unfolding wheel_pass wheel_events wheel_event on_wheel_event on_phase cleared_wheel
wheel_clears c rect time es r w = ap (after_events time c.smoothing_factor) (wheel_ends rect c.options time es (rest_events r) (clear_smooth w))

keys_clear : (es : List TouchEnd) (r : Rest) (s : Keys) → keys_pass (ends_then es (rest_events r)) s ≡ cleared_keys
unfolding keys_pass key_events key_event is_empty cleared_keys fresh
keys_clear es r s =
    let b = is_empty (ends_then es (rest_events r)) in
    key_ends es (rest_events r) (record { keys_down = s.keys_down; modifiers = s.modifiers; presses = (keys_pass [] s).presses; feed_empty = b })
    ∙ (λ j. record { keys_down = cleared_keys.keys_down; modifiers = no_modifiers; presses = cleared_keys.presses; feed_empty = not_empty es r j })

sums_clear : (o : InputOptions) (es : List TouchEnd) (r : Rest) (w : WheelState) → sums_of o (ends_then es (rest_events r)) w ≡ sums_of o [] w
unfolding sums_of zoom_of zoom_event rotation_of rotation_event
sums_clear o es r w =
    λ j. record {
      zoom_factor = zoom_ends es (rest_events r) one j;
      zoom_exponent = (sums_of o [] w).zoom_exponent;
      rotation_radians = rotation_ends es (rest_events r) +0 j;
      smooth_scroll_delta = (sums_of o [] w).smooth_scroll_delta;
    }

-- ---- the pass as a whole
unfoldable pub undecided_of : Panel → Undecided
undecided_of q =
    record {
      unstable_dt = q.clock.unstable_dt;
      stable_dt = q.clock.stable_dt;
      velocity = q.place.velocity;
      pointer_events = q.press.held.pointer_events;
      past = q.press.past;
      started_decidedly_dragging = q.started_decidedly_dragging;
      last_move_time = q.last_move_time;
      touch_states = q.touch_states;
      tally = q.tally;
    }

module _ (p : Panel) (c : PassInput) (tc : Float) (rect : Rect) (es : List TouchEnd) (r : Rest)
    (gives_time : c.time ≡ Some tc) (gives_rect : c.screen_rect ≡ Some rect) (feed : pass_events c ≡ map end_event es ++ rest_events r) where
  pub time_is : time_of c p.clock.time ≡ tc
  unfolding time_of time_or
  time_is = rw gives_time

  rect_is : rect_or c.screen_rect p.screen.viewport_rect ≡ rect
  unfolding rect_or
  rect_is = rw gives_rect

  place_cleared : (begin_pass p c).place ≡ cleared_place r (begin_pass p c).place.velocity
  unfolding begin_pass
  place_cleared = rw feed (place_clears (time_of c p.clock.time) es r p.place)

  press_cleared : CountTrue p.press.held.down → (begin_pass p c).press ≡ cleared_press (begin_pass p c).press.held.pointer_events (begin_pass p c).press.past
  unfolding begin_pass
  press_cleared h = rw feed (press_clears c.options (time_of c p.clock.time) es r p.press h)

  wheel_cleared : (begin_pass p c).wheel ≡ cleared_wheel c tc r
  unfolding begin_pass
  wheel_cleared = rw (feed, time_is) (wheel_clears c (rect_or c.screen_rect p.screen.viewport_rect) tc es r p.wheel)

  keys_cleared : (begin_pass p c).keys ≡ cleared_keys
  unfolding begin_pass
  keys_cleared = rw feed (keys_clear es r p.keys)

  sums_cleared : (begin_pass p c).sums ≡ sums_of c.options [] (cleared_wheel c tc r)
  unfolding begin_pass
  sums_cleared = ap (λ (z : WheelState). sums_of c.options (pass_events c) z) wheel_cleared ∙ rw feed (sums_clear c.options es r (cleared_wheel c tc r))

  pub pass_clears : CountTrue p.press.held.down → begin_pass p c ≡ cleared_panel c tc rect r (undecided_of (begin_pass p c)) p.interaction
  unfolding cleared_panel undecided_of begin_pass clock_pass screen_pass
  pass_clears h = λ j.
      record {
        clock = record { time = time_is j; pointer_time = time_is j; unstable_dt = (begin_pass p c).clock.unstable_dt; stable_dt = (begin_pass p c).clock.stable_dt; predicted_dt = c.predicted_dt };
        screen = record { viewport_rect = rect_is j; pixels_per_point = c.pixels_per_point; focused = c.focused; options = c.options };
        place = place_cleared j;
        press = press_cleared h j;
        started_decidedly_dragging = (begin_pass p c).started_decidedly_dragging;
        last_move_time = (begin_pass p c).last_move_time;
        touch_states = (begin_pass p c).touch_states;
        wheel = wheel_cleared j;
        keys = keys_cleared j;
        sums = sums_cleared j;
        interaction = p.interaction;
        tally = p.tally;
      }

-- ---- the Ends leave no touch
other_device : (a b x : Bool) → a ≡ false → T ((a && b) || x) → T x
other_device a b x e t = rw e at t

other_touch : (a b x : Bool) → b ≡ false → T ((a && b) || x) → T x
other_touch true b x e t = rw e at t
other_touch false b x e t = t

ends_other : (e : TouchEnd) (es : List TouchEnd) (d : ℕ) (ts : List ActiveTouch) → (d ≡ e.device_id → ⊥) → EndsTouches (e ∷ es) d ts → EndsTouches es d ts
unfolding is_ended
ends_other e es d [] n h = tt
ends_other e es d (t ∷ ts) n h =
    (other_device (eqb d e.device_id) (eqb t.id e.id) (is_ended d t.id es) (eqb_no d e.device_id n) h.0, ends_other e es d ts n h.1)

ends_removed : (e : TouchEnd) (es : List TouchEnd) (d : ℕ) (ts : List ActiveTouch) → EndsTouches (e ∷ es) d ts → EndsTouches es d (remove_touch e.id ts)
unfolding remove_touch is_ended
ends_removed e es d [] h = tt
ends_removed e es d (t ∷ ts) h = go (eqb e.id t.id) refl (ends_removed e es d ts h.1)
  where
    go : (b : Bool) → eqb e.id t.id ≡ b → EndsTouches es d (remove_touch e.id ts) → EndsTouches es d (cond b (remove_touch e.id ts) (t ∷ remove_touch e.id ts))
    go true x k = k
    go false x k =
        let n : eqb t.id e.id ≡ false = eqb_no t.id e.id (λ y. absurd (true≢false (sym (eqb_yes e.id) ∙ ap (eqb e.id) (sym y) ∙ x))) in
        (other_touch (eqb d e.device_id) (eqb t.id e.id) (is_ended d t.id es) n h.0, k)

ends_above : (e : TouchEnd) (es : List TouchEnd) (vs : List TouchState) → AboveAll e.device_id vs → EndsAll (e ∷ es) vs → EndsAll es vs
ends_above e es [] a h = tt
ends_above e es (v ∷ vs) a h = (ends_other e es v.device_id v.active_touches (λ x. let y = a.0 in omega arith) h.0, ends_above e es vs a.1 h.1)

ends_step : (e : TouchEnd) (es : List TouchEnd) (vs : List TouchState) → Ascend vs → EndsAll (e ∷ es) vs → EndsAll es (touch_event (end_event e) vs)
unfolding touch_event at_device touch_device on_touch new_device remove_touch
ends_step e es [] a h = (tt, tt)
ends_step e es (v ∷ vs) a h =
    elim (order e.device_id v.device_id) [
      | less l ↦ rw (at_less e.device_id (touch_device End t) v vs l) (tt, ends_above e es (v ∷ vs) (l, above_down device_id_of e.device_id v.device_id vs l a.0) h)
      | equal x ↦ rw (at_same e.device_id (touch_device End t) v vs x) (ends_removed e es v.device_id v.active_touches h.0, ends_above e es vs (rw x a.0) h.1)
      | more l ↦ rw (at_more e.device_id (touch_device End t) v vs l) (ends_other e es v.device_id v.active_touches (λ x. omega arith) h.0, ends_step e es vs a.1 h.1)
    ]
  where
    t : ActiveTouch
    t = record { id = e.id; pos = e.pos; force = e.force }

abbrev NoTouches : List TouchState → Type 0
NoTouches [] = Unit {0}
NoTouches (v ∷ vs) = (v.active_touches ≡ []) × NoTouches vs

all_ended : (d : ℕ) (ts : List ActiveTouch) → EndsTouches [] d ts → ts ≡ []
unfolding is_ended
all_ended d [] h = refl
all_ended d (t ∷ ts) h = absurd h.0

none_left : (vs : List TouchState) → EndsAll [] vs → NoTouches vs
none_left [] h = tt
none_left (v ∷ vs) h = (all_ended v.device_id v.active_touches h.0, none_left vs h.1)

ends_leave_none : (es : List TouchEnd) (r : Rest) (vs : List TouchState) → Ascend vs → EndsAll es vs → NoTouches (touch_events (ends_then es (rest_events r)) vs)
unfolding touch_events touch_event
ends_leave_none [] r vs a h = none_left vs h
ends_leave_none (e ∷ es) r vs a h = ends_leave_none es r (touch_event (end_event e) vs) (event_ascending (end_event e) vs a) (ends_step e es vs a h)

gesture_ends : (time : Float) (p : Option Pos2) (ev : List Event) (v : TouchState) → v.active_touches ≡ [] → is_live (end_touches time p ev v) ≡ false
unfolding is_live end_touches end_device calc_dynamic_state update_gesture forget_previous_if some_touch has_gesture
gesture_ends time p ev v e = rw e

none_live : (time : Float) (p : Option Pos2) (ev : List Event) (vs : List TouchState) → NoTouches vs → live (map (end_touches time p ev) vs) ≡ []
unfolding live
none_live time p ev [] h = refl
none_live time p ev (v ∷ vs) h =
    live_no (end_touches time p ev v) (live (map (end_touches time p ev) vs)) (gesture_ends time p ev v h.0) ∙ none_live time p ev vs h.1

pub touches_cleared : (time : Float) (p : Option Pos2) (es : List TouchEnd) (r : Rest) (vs : List TouchState) → Ascend vs → EndsAll es vs → live (touch_pass time p (ends_then es (rest_events r)) vs) ≡ []
unfolding touch_pass
touches_cleared time p es r vs a h =
    none_live time p (ends_then es (rest_events r)) (touch_events (ends_then es (rest_events r)) vs) (ends_leave_none es r vs a h)
