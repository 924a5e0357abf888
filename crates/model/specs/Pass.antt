-- A pass (InputState of input_state/mod.rs): refused with all left as before, or taken. Definitions only.
use Rattle.std.specs.Prelude.{ℕ, zero, suc, ◌+◌, Bool, true, false, not, ◌&&◌, cond, List, [], ◌∷◌, length, eqb, Float, Option, None, Some}
use Rattle.std.specs.Float.{binary32, binary64}
use Rattle.std.specs.Float.Ieee.{add, sub, mul, lt}
use Rattle.ieee_narrow.specs.Narrow.{narrow}
use Rattle.emath.specs.Vec.{vec_zero, pos_zero}
use Rattle.data.specs.Modifiers.{no_modifiers, matches_any}
use Rattle.data.specs.Limits.{max_events, time_ok, unit_interval_ok, scale_ok, rect_ok, options_ok}
use Rattle.feed.specs.Decode.{Decoded, good, malformed, outside_domain, Item, items}
use Rattle.feed.specs.Feed.{events_of}
use Rattle.model.specs.Numbers.{+0, neg_infinity, one, sixtieth, ten_thousand}
use Rattle.model.specs.Options.{default_options}
use Rattle.model.specs.Types.{Vec2, Rect, Modifiers, InputOptions, WheelState}
use Rattle.model.specs.Types.{PassRefusal, Malformed, OutsideDomain, TimeBelow, TooManyEvents, NoPlace}
use Rattle.model.specs.Types.{Event, Key, ModifiersChanged, PointerMoved, MouseMoved, Button, PointerGone, Zoom, Rotate, Touch, MouseWheel, WindowFocused, Other}
use Rattle.model.specs.Pointer.{Place, place_pass, Press, press_pass, is_decidedly_dragging, no_buttons, move_time}
use Rattle.model.specs.Touch.{TouchState, no_place, find_device, touch_event, touch_pass}
use Rattle.model.specs.Wheel.{wheel_default, wheel_pass}

-- ---- the panel's state

-- times in seconds: the pointer's own time differs from the panel's only before the first pass
pub record Clock : Type 0 where
  pub time : Float
  pub pointer_time : Float
  pub unstable_dt : Float
  pub stable_dt : Float
  pub predicted_dt : Float

pub record Screen : Type 0 where
  pub viewport_rect : Rect
  pub pixels_per_point : Float
  pub focused : Bool
  pub options : InputOptions

-- the keys that are down, how often each was pressed in the pass, and whether its feed was empty
pub record Keys : Type 0 where
  pub keys_down : ℕ → Bool
  pub modifiers : Modifiers
  pub presses : ℕ → ℕ
  pub feed_empty : Bool

-- zoom is the product of the pass's Zoom factors, and an exponent that the host takes the exponential of
pub record Sums : Type 0 where
  pub zoom_factor : Float
  pub zoom_exponent : Float
  pub rotation_radians : Float
  pub smooth_scroll_delta : Vec2

-- the two potential ids, and the widget that is dragged
pub record Interaction : Type 0 where
  pub potential_click_id : Option ℕ
  pub potential_drag_id : Option ℕ
  pub dragged : Option ℕ

-- what is counted of drags: their starts
abbrev pub Tally : Type 0
Tally = ℕ

pub record Panel : Type 0 where
  pub clock : Clock
  pub screen : Screen
  pub place : Place
  pub press : Press
  pub started_decidedly_dragging : Bool
  pub last_move_time : Option Float
  pub touch_states : List TouchState
  pub wheel : WheelState
  pub keys : Keys
  pub sums : Sums
  pub interaction : Interaction
  pub tally : Tally

unfoldable pub no_keys : ℕ → Bool
no_keys k = false

unfoldable pub no_presses : ℕ → ℕ
no_presses k = 0

unfoldable pub no_interaction : Interaction
no_interaction = record { potential_click_id = None; potential_drag_id = None; dragged = None }

-- `Default for PointerState`
unfoldable pub fresh_place : Place
fresh_place =
    record { latest_pos = None; interact_pos = None; delta = vec_zero; motion = None; velocity = vec_zero; direction = vec_zero; pos_history = [] }

unfoldable pub fresh_press : Press
fresh_press =
    record {
      held = record { down = no_buttons; press_origin = None; press_start_time = None; pointer_events = [] };
      past = record { has_moved_too_much_for_a_click = false; last_click_pos = None; last_click_time = neg_infinity; last_last_click_time = neg_infinity };
    }

-- 01: "a fresh panel: egui's initial state, no drag, tally 0" (`Default for InputState`)
unfoldable pub fresh : Panel
fresh =
    record {
      clock = record { time = +0; pointer_time = neg_infinity; unstable_dt = sixtieth; stable_dt = sixtieth; predicted_dt = sixtieth };
      screen =
          record {
            viewport_rect = record { min = pos_zero; max = record { x = ten_thousand; y = ten_thousand } };
            pixels_per_point = one;
            focused = false;
            options = default_options;
          };
      place = fresh_place;
      press = fresh_press;
      started_decidedly_dragging = false;
      last_move_time = None;
      touch_states = [];
      wheel = wheel_default;
      keys = record { keys_down = no_keys; modifiers = no_modifiers; presses = no_presses; feed_empty = true };
      sums = record { zoom_factor = one; zoom_exponent = +0; rotation_radians = +0; smooth_scroll_delta = vec_zero };
      interaction = no_interaction;
      tally = 0;
    }

-- ---- what a pass is given; the feed as words
pub record PassInput : Type 0 where
  pub time : Option Float
  pub screen_rect : Option Rect
  pub predicted_dt : Float
  pub smoothing_factor : Float
  pub pixels_per_point : Float
  pub focused : Bool
  -- `requested_immediate_repaint_prev_frame`
  pub requested_repaint : Bool
  pub options : InputOptions
  pub feed : List ℕ

-- the events of a feed: all of them, where it is taken
unfoldable pub pass_events : PassInput → List Event
pass_events i = events_of (items i.feed)

-- ---- keys, zoom and rotation

-- `keys_down.insert(key)`, or `remove(key)`
unfoldable pub set_key : ℕ → Bool → (ℕ → Bool) → ℕ → Bool
set_key k pressed down j = cond (eqb j k) pressed (down j)

-- one press more
unfoldable pub count_press : ℕ → (ℕ → ℕ) → ℕ → ℕ
count_press k presses j = cond (eqb j k) 1 0 + presses j

-- an event's effect on keys and modifiers: lost focus clears both
unfoldable pub key_event : Event → Keys → Keys
key_event (Key k true) s = record { keys_down = set_key k true s.keys_down; modifiers = s.modifiers; presses = count_press k s.presses; feed_empty = s.feed_empty }
key_event (Key k false) s = record { keys_down = set_key k false s.keys_down; modifiers = s.modifiers; presses = s.presses; feed_empty = s.feed_empty }
key_event (ModifiersChanged m) s = record { keys_down = s.keys_down; modifiers = m; presses = s.presses; feed_empty = s.feed_empty }
key_event (PointerMoved v) s = s
key_event (MouseMoved v) s = s
key_event (Button v b d m) s = s
key_event PointerGone s = s
key_event (Zoom x) s = s
key_event (Rotate x) s = s
key_event (Touch d i ph v f) s = s
key_event (MouseWheel u v ph g m) s = s
key_event (WindowFocused true) s = s
key_event (WindowFocused false) s = record { keys_down = no_keys; modifiers = no_modifiers; presses = s.presses; feed_empty = s.feed_empty }
key_event Other s = s

unfoldable pub key_events : List Event → Keys → Keys
key_events [] s = s
key_events (e ∷ es) s = key_events es (key_event e s)

unfoldable pub is_empty : List Event → Bool
is_empty [] = true
is_empty (e ∷ es) = false

unfoldable pub keys_pass : List Event → Keys → Keys
keys_pass es s = key_events es (record { keys_down = s.keys_down; modifiers = s.modifiers; presses = no_presses; feed_empty = is_empty es })

-- `zoom_factor_delta *= factor`
unfoldable pub zoom_event : Event → Float → Float
zoom_event (Key k b) a = a
zoom_event (ModifiersChanged m) a = a
zoom_event (PointerMoved v) a = a
zoom_event (MouseMoved v) a = a
zoom_event (Button v b d m) a = a
zoom_event PointerGone a = a
zoom_event (Zoom x) a = mul binary32 a x
zoom_event (Rotate x) a = a
zoom_event (Touch d i ph v f) a = a
zoom_event (MouseWheel u v ph s m) a = a
zoom_event (WindowFocused b) a = a
zoom_event Other a = a

unfoldable pub zoom_of : List Event → Float → Float
zoom_of [] a = a
zoom_of (e ∷ es) a = zoom_of es (zoom_event e a)

-- `rotation_radians += radians`
unfoldable pub rotation_event : Event → Float → Float
rotation_event (Key k b) a = a
rotation_event (ModifiersChanged m) a = a
rotation_event (PointerMoved v) a = a
rotation_event (MouseMoved v) a = a
rotation_event (Button v b d m) a = a
rotation_event PointerGone a = a
rotation_event (Zoom x) a = a
rotation_event (Rotate x) a = add binary32 a x
rotation_event (Touch d i ph v f) a = a
rotation_event (MouseWheel u v ph s m) a = a
rotation_event (WindowFocused b) a = a
rotation_event Other a = a

unfoldable pub rotation_of : List Event → Float → Float
rotation_of [] a = a
rotation_of (e ∷ es) a = rotation_of es (rotation_event e a)

-- 01 item 6: "an exponent, scroll_zoom_speed · (x + y), 0 without the zoom modifier"; the wheel zooms or scrolls
unfoldable pub sums_of : InputOptions → List Event → WheelState → Sums
sums_of o es w =
    let is_zoom = matches_any w.modifiers o.zoom_modifier in
    record {
      zoom_factor = zoom_of es one;
      zoom_exponent = cond is_zoom (mul binary32 o.scroll_zoom_speed (add binary32 w.smooth_wheel_delta.x w.smooth_wheel_delta.y)) +0;
      rotation_radians = rotation_of es +0;
      smooth_scroll_delta = cond is_zoom vec_zero w.smooth_wheel_delta;
    }

-- ---- a pass that is taken

-- `new.time.unwrap_or(self.time + predicted_dt)`
unfoldable pub time_or : Option Float → Float → Float → Float
time_or None dt old = add binary64 old dt
time_or (Some t) dt old = t

unfoldable pub time_of : PassInput → Float → Float
time_of i old = time_or i.time i.predicted_dt old

unfoldable pub rect_or : Option Rect → Rect → Rect
rect_or None r = r
rect_or (Some r) s = r

unfoldable pub clock_pass : PassInput → Float → Clock → Clock
clock_pass i time c =
    let dt = narrow binary32 (sub binary64 time c.time) in
    record { time = time; pointer_time = time; unstable_dt = dt; stable_dt = cond i.requested_repaint dt i.predicted_dt; predicted_dt = i.predicted_dt }

unfoldable pub screen_pass : PassInput → Screen → Screen
screen_pass i s = record { viewport_rect = rect_or i.screen_rect s.viewport_rect; pixels_per_point = i.pixels_per_point; focused = i.focused; options = i.options }

-- `pointer.is_decidedly_dragging()` of a state
unfoldable pub decidedly_dragging : Clock → Screen → Press → Bool
decidedly_dragging c s p = is_decidedly_dragging s.options c.pointer_time p.held p.past.has_moved_too_much_for_a_click

-- `begin_pass`: a gesture starts at the interact position of the pass before
unfoldable pub begin_pass : Panel → PassInput → Panel
begin_pass p i =
    let time = time_of i p.clock.time in
    let es = pass_events i in
    let o = i.options in
    let s = press_pass o time es p.press in
    let w = wheel_pass (rect_or i.screen_rect p.screen.viewport_rect) o time i.smoothing_factor es p.wheel in
    record {
      clock = clock_pass i time p.clock;
      screen = screen_pass i p.screen;
      place = place_pass time es p.place;
      press = s;
      started_decidedly_dragging =
          is_decidedly_dragging o time s.held s.past.has_moved_too_much_for_a_click && not (decidedly_dragging p.clock p.screen p.press);
      last_move_time = move_time time s.held.pointer_events (place_pass time es p.place).velocity p.last_move_time;
      touch_states = touch_pass time p.place.interact_pos es p.touch_states;
      wheel = w;
      keys = keys_pass es p.keys;
      sums = sums_of o es w;
      interaction = p.interaction;
      tally = p.tally;
    }

-- ---- refusals

unfoldable pub rect_given_ok : Option Rect → Bool
rect_given_ok None = true
rect_given_ok (Some r) = rect_ok r

-- the pass's own numbers are in the domain
unfoldable pub own_numbers_ok : PassInput → Float → Bool
own_numbers_ok i time =
    time_ok time
    && (unit_interval_ok i.predicted_dt
    && (unit_interval_ok i.smoothing_factor && (scale_ok i.pixels_per_point && (rect_given_ok i.screen_rect && options_ok i.options))))

-- 01, rows 2 and 3: "Pass: 2 for its own numbers, 3". (An absent time is never below the state's: predicted dt is at least 0.)
unfoldable pub own_refusal : PassInput → Float → Option PassRefusal
own_refusal i old = cond (own_numbers_ok i (time_of i old)) (cond (lt (time_of i old) old) (Some TimeBelow) None) (Some (OutsideDomain 0))

-- does a touch event find no place
unfoldable pub crowded : Event → List TouchState → Bool
crowded (Key k b) vs = false
crowded (ModifiersChanged m) vs = false
crowded (PointerMoved v) vs = false
crowded (MouseMoved v) vs = false
crowded (Button v b d m) vs = false
crowded PointerGone vs = false
crowded (Zoom x) vs = false
crowded (Rotate x) vs = false
crowded (Touch d i ph v f) vs = no_place ph i (length vs) (find_device d vs)
crowded (MouseWheel u v ph s m) vs = false
crowded (WindowFocused b) vs = false
crowded Other vs = false

-- of the event at word w, against the devices held so far: 1, 2, 5
unfoldable pub item_refusal : ℕ → Decoded → List TouchState → Option PassRefusal
item_refusal w (good e) vs = cond (crowded e vs) (Some (NoPlace w)) None
item_refusal w malformed vs = Some (Malformed w)
item_refusal w outside_domain vs = Some (OutsideDomain w)

unfoldable pub item_devices : Decoded → List TouchState → List TouchState
item_devices (good e) vs = touch_event e vs
item_devices malformed vs = vs
item_devices outside_domain vs = vs

unfoldable pub or_else : {A : Type 0} → Option A → Option A → Option A
or_else None b = b
or_else (Some a) b = Some a

-- 01: "then event by event 4, 1, 2, 5". `left` is how many events may still come
unfoldable pub survey : ℕ → List Item → List TouchState → Option PassRefusal
survey left [] vs = None
survey zero (i ∷ is) vs = Some (TooManyEvents i.index)
survey (suc left) (i ∷ is) vs = or_else (item_refusal i.index i.what vs) (survey left is (item_devices i.what vs))

unfoldable pub pass_refusal : Panel → PassInput → Option PassRefusal
pass_refusal p i = or_else (own_refusal i p.clock.time) (survey max_events (items i.feed) p.touch_states)

pub data Passed : Type 0 where
  refused : PassRefusal → Passed
  taken : Panel → Passed

unfoldable pub pass_by : Option PassRefusal → Panel → PassInput → Passed
pass_by (Some r) p i = refused r
pass_by None p i = taken (begin_pass p i)

-- a pass
unfoldable pub pass : Panel → PassInput → Passed
pass p i = pass_by (pass_refusal p i) p i
