-- wheel_state.rs: the state of scrolling. Definitions only.
use Rattle.std.specs.Prelude.{Bool, true, false, not, ◌&&◌, ◌||◌, cond, List, [], ◌∷◌, Float}
use Rattle.std.specs.Float.{inf, binary32, binary64}
use Rattle.std.specs.Float.Ieee.{add, sub, mul, lt, of_bits}
use Rattle.emath.specs.Vec.{vec_zero, vec_add, vec_scale, vec_ne, length, height, abs}
use Rattle.data.specs.Modifiers.{no_modifiers, modifiers_or, matches_any}
use Rattle.model.specs.Numbers.{+0, one, eight}
use Rattle.model.specs.Types.{Vec2, Rect, Modifiers, InputOptions, TouchPhase, Start, Move, End, Cancel}
use Rattle.model.specs.Types.{MouseWheelUnit, Point, Line, Page, MouseWheelSource, Unknown, Wheel, Trackpad, Momentum}
use Rattle.model.specs.Types.{Status, Static, Smoothing, InTouch, WheelState}
use Rattle.model.specs.Types.{Event, Key, ModifiersChanged, PointerMoved, MouseMoved, Button, PointerGone, Zoom, Rotate, Touch, MouseWheel, WindowFocused, Other}

-- SCROLL_ACTION_TIMEOUT: 0.150 s
unfoldable pub scroll_action_timeout : Float
scroll_action_timeout = of_bits binary64 0x3fc3_3333_3333_3333

-- RESTING_FINGER_TIMEOUT: 1.0 s
unfoldable pub resting_finger_timeout : Float
resting_finger_timeout = of_bits binary64 0x3ff0_0000_0000_0000

-- `Default for WheelState`
unfoldable pub wheel_default : WheelState
wheel_default =
    record {
      status = Static;
      source = Unknown;
      modifiers = no_modifiers;
      last_wheel_event = inf true;
      unprocessed_wheel_delta = vec_zero;
      smooth_wheel_delta = vec_zero;
    }

unfoldable pub is_static : Status → Bool
is_static Static = true
is_static Smoothing = false
is_static InTouch = false

unfoldable pub is_in_touch : Status → Bool
is_in_touch Static = false
is_in_touch Smoothing = false
is_in_touch InTouch = true

unfoldable pub is_trackpad : MouseWheelSource → Bool
is_trackpad Unknown = false
is_trackpad Wheel = false
is_trackpad Trackpad = true
is_trackpad Momentum = false

-- `is_scrolling`
unfoldable pub is_scrolling : WheelState → Bool
is_scrolling w = not (is_static w.status)

-- 01: "over 0.150 s, or over 1.0 s if InTouch from Trackpad"
unfoldable pub timeout : WheelState → Float
timeout w = cond (is_in_touch w.status && is_trackpad w.source) resting_finger_timeout scroll_action_timeout

-- `is_scroll_action_over`
unfoldable pub is_scroll_action_over : Float → WheelState → Bool
is_scroll_action_over time w = is_scrolling w && lt (timeout w) (sub binary64 time w.last_wheel_event)

-- `end_scroll_action`, where the test before it holds
unfoldable pub end_scroll_action_if : Bool → WheelState → WheelState
end_scroll_action_if false w = w
end_scroll_action_if true w =
    record {
      status = Static;
      source = w.source;
      modifiers = no_modifiers;
      last_wheel_event = w.last_wheel_event;
      unprocessed_wheel_delta = w.unprocessed_wheel_delta;
      smooth_wheel_delta = w.smooth_wheel_delta;
    }

-- the status with which a Move goes on
unfoldable pub move_status : Status → Status
move_status Static = Smoothing
move_status Smoothing = Smoothing
move_status InTouch = InTouch

-- the modifiers with which a Move goes on: in touch, those held before stay
unfoldable pub move_modifiers : Status → Modifiers → Modifiers → Modifiers
move_modifiers Static old latest = latest
move_modifiers Smoothing old latest = latest
move_modifiers InTouch old latest = modifiers_or old latest

-- the delta in points
unfoldable pub in_points : Rect → InputOptions → MouseWheelUnit → Vec2 → Vec2
in_points r o Point delta = delta
in_points r o Line delta = vec_scale o.line_scroll_speed delta
in_points r o Page delta = vec_scale (height r) delta

-- the axis swap: is_horizontal, is_vertical
unfoldable pub swapped : Bool → Bool → Vec2 → Vec2
swapped true false delta = record { x = add binary32 delta.x delta.y; y = +0 }
swapped false true delta = record { x = +0; y = add binary32 delta.x delta.y }
swapped true true delta = delta
swapped false false delta = delta

unfoldable pub axes : InputOptions → Modifiers → Vec2 → Vec2
axes o m delta = swapped (matches_any m o.horizontal_scroll_modifier) (matches_any m o.vertical_scroll_modifier) delta

-- is a delta, after the axis swap, smooth by itself
unfoldable pub small : MouseWheelUnit → Vec2 → Bool
small Point delta = lt (length delta) eight
small Line delta = false
small Page delta = false

unfoldable pub add_delta : Bool → Vec2 → WheelState → WheelState
add_delta true delta w =
    record {
      status = w.status;
      source = w.source;
      modifiers = w.modifiers;
      last_wheel_event = w.last_wheel_event;
      unprocessed_wheel_delta = w.unprocessed_wheel_delta;
      smooth_wheel_delta = vec_add w.smooth_wheel_delta delta;
    }
add_delta false delta w =
    record {
      status = w.status;
      source = w.source;
      modifiers = w.modifiers;
      last_wheel_event = w.last_wheel_event;
      unprocessed_wheel_delta = vec_add w.unprocessed_wheel_delta delta;
      smooth_wheel_delta = w.smooth_wheel_delta;
    }

-- the scroll of a Move, of a state that has its new status and modifiers: smoothness is tested on the swapped delta
unfoldable pub scroll : MouseWheelUnit → Vec2 → WheelState → WheelState
scroll unit delta w = add_delta (is_in_touch w.status || small unit delta) delta w

unfoldable pub on_move : Rect → InputOptions → MouseWheelUnit → Vec2 → WheelState → WheelState
on_move r o unit delta w = scroll unit (axes o w.modifiers (in_points r o unit delta)) w

-- End and Cancel: nothing is left to scroll
unfoldable pub stopped_wheel : Float → MouseWheelSource → WheelState
stopped_wheel time source =
    record {
      status = Static;
      source = source;
      modifiers = no_modifiers;
      last_wheel_event = time;
      unprocessed_wheel_delta = vec_zero;
      smooth_wheel_delta = vec_zero;
    }

-- `on_wheel_event` by phase, of a state whose scroll action is ended if it was over
unfoldable pub on_phase : Rect → InputOptions → Float → MouseWheelUnit → Vec2 → TouchPhase → MouseWheelSource → Modifiers → WheelState → WheelState
on_phase r o time unit delta Start source m w =
    record {
      status = InTouch;
      source = source;
      modifiers = m;
      last_wheel_event = time;
      unprocessed_wheel_delta = w.unprocessed_wheel_delta;
      smooth_wheel_delta = w.smooth_wheel_delta;
    }
on_phase r o time unit delta Move source m w =
    on_move r o unit delta
    (record {
      status = move_status w.status;
      source = source;
      modifiers = move_modifiers w.status w.modifiers m;
      last_wheel_event = time;
      unprocessed_wheel_delta = w.unprocessed_wheel_delta;
      smooth_wheel_delta = w.smooth_wheel_delta;
    })
on_phase r o time unit delta End source m w = stopped_wheel time source
on_phase r o time unit delta Cancel source m w = stopped_wheel time source

-- `on_wheel_event`
unfoldable pub on_wheel_event : Rect → InputOptions → Float → MouseWheelUnit → Vec2 → TouchPhase → MouseWheelSource → Modifiers → WheelState → WheelState
on_wheel_event r o time unit delta phase source m w = on_phase r o time unit delta phase source m (end_scroll_action_if (is_scroll_action_over time w) w)

-- the pass's events, as far as the wheel reads them
unfoldable pub wheel_event : Rect → InputOptions → Float → Event → WheelState → WheelState
wheel_event r o time (Key k b) w = w
wheel_event r o time (ModifiersChanged m) w = w
wheel_event r o time (PointerMoved p) w = w
wheel_event r o time (MouseMoved v) w = w
wheel_event r o time (Button p b d m) w = w
wheel_event r o time PointerGone w = w
wheel_event r o time (Zoom x) w = w
wheel_event r o time (Rotate x) w = w
wheel_event r o time (Touch d i ph p f) w = w
wheel_event r o time (MouseWheel unit delta phase source m) w = on_wheel_event r o time unit delta phase source m w
wheel_event r o time (WindowFocused b) w = w
wheel_event r o time Other w = w

unfoldable pub wheel_events : Rect → InputOptions → Float → List Event → WheelState → WheelState
wheel_events r o time [] w = w
wheel_events r o time (e ∷ es) w = wheel_events r o time es (wheel_event r o time e w)

-- ---- `after_events`, with the smoothing factor t handed in

-- what a part of the unprocessed delta gives to the smooth one
unfoldable pub applied : Float → Float → Float
applied t x = cond (lt (abs x) one) x (mul binary32 t x)

-- what is left of it
unfoldable pub unapplied : Float → Float → Float
unapplied t x = cond (lt (abs x) one) +0 (sub binary32 x (mul binary32 t x))

unfoldable pub smoothed_if : Bool → Float → WheelState → WheelState
smoothed_if false t w = w
smoothed_if true t w =
    record {
      status = w.status;
      source = w.source;
      modifiers = w.modifiers;
      last_wheel_event = w.last_wheel_event;
      unprocessed_wheel_delta = record { x = unapplied t w.unprocessed_wheel_delta.x; y = unapplied t w.unprocessed_wheel_delta.y };
      smooth_wheel_delta = vec_add w.smooth_wheel_delta (record { x = applied t w.unprocessed_wheel_delta.x; y = applied t w.unprocessed_wheel_delta.y });
    }

unfoldable pub smoothed : Float → WheelState → WheelState
smoothed t w = smoothed_if (vec_ne w.unprocessed_wheel_delta vec_zero) t w

-- the action ends if nothing scrolled and its time is over
unfoldable pub end_if_still : Float → WheelState → WheelState
end_if_still time w = end_scroll_action_if (not (vec_ne w.smooth_wheel_delta vec_zero) && is_scroll_action_over time w) w

-- `after_events`
unfoldable pub after_events : Float → Float → WheelState → WheelState
after_events time t w = end_if_still time (smoothed t w)

-- `begin_pass` clears the smooth delta first
unfoldable pub clear_smooth : WheelState → WheelState
clear_smooth w =
    record {
      status = w.status;
      source = w.source;
      modifiers = w.modifiers;
      last_wheel_event = w.last_wheel_event;
      unprocessed_wheel_delta = w.unprocessed_wheel_delta;
      smooth_wheel_delta = vec_zero;
    }

-- the wheel's part of a pass
unfoldable pub wheel_pass : Rect → InputOptions → Float → Float → List Event → WheelState → WheelState
wheel_pass r o time t es w = after_events time t (wheel_events r o time es (clear_smooth w))
