-- PointerState of input_state/mod.rs, in three records: where the pointer is (`Place`), which buttons are down and what happened in the pass (`Held`),
-- and what presses and clicks leave behind (`ClickPast`). Definitions only.
use Rattle.std.specs.Prelude.{ℕ, suc, ◌+◌, ◌-◌, ◌≡◌, Bool, true, false, not, ◌&&◌, ◌||◌, cond, List, [], ◌∷◌, ◌++◌, leb, ltb, length, Float, Option, None, Some}
use Rattle.std.specs.Float.{binary32, binary64}
use Rattle.std.specs.Float.Ieee.{sub, mul, lt}
use Rattle.data.specs.Bits.{bit_number}
use Rattle.data.specs.Limits.{button_count}
use Rattle.emath.specs.Vec.{vec_zero, vec_add, pos_sub, vec_ne, distance, distance_sq, normalized}
use Rattle.emath.specs.History.{Sample, flush, add, duration, velocity}
use Rattle.model.specs.Numbers.{+0, hundredth}
use Rattle.model.specs.Types.{Pos2, Vec2, Modifiers, InputOptions}
use Rattle.model.specs.Types.{PointerButton, Primary, Secondary, Middle, Extra1, Extra2, ButtonsDown}
use Rattle.model.specs.Types.{Click, PointerEvent, Moved, Pressed, Released}
use Rattle.model.specs.Types.{Event, Key, ModifiersChanged, PointerMoved, MouseMoved, Button, PointerGone, Zoom, Rotate, Touch, MouseWheel, WindowFocused, Other}

-- ---- where the pointer is

pub record Place : Type 0 where
  pub latest_pos : Option Pos2
  pub interact_pos : Option Pos2
  pub delta : Vec2
  pub motion : Option Vec2
  pub velocity : Vec2
  pub direction : Vec2
  pub pos_history : List Sample

unfoldable pub unwrap_or_default : Option Vec2 → Vec2
unwrap_or_default None = vec_zero
unwrap_or_default (Some v) = v

-- `begin_pass` sets a known motion to zero
unfoldable pub zero_motion : Option Vec2 → Option Vec2
zero_motion None = None
zero_motion (Some v) = Some vec_zero

-- `*motion.get_or_insert(Vec2::ZERO) += delta`
unfoldable pub add_motion : Vec2 → Option Vec2 → Option Vec2
add_motion v None = Some (vec_add vec_zero v)
add_motion v (Some w) = Some (vec_add w v)

unfoldable pub with_place : Option Pos2 → Option Pos2 → Option Vec2 → List Sample → Place → Place
with_place l i m h p = record { latest_pos = l; interact_pos = i; delta = p.delta; motion = m; velocity = p.velocity; direction = p.direction; pos_history = h }

-- an event's effect on it: a press clears the history, and a pointer that is gone keeps its interact position
unfoldable pub place_event : Event → Place → Place
place_event (Key k b) p = p
place_event (ModifiersChanged m) p = p
place_event (PointerMoved v) p = with_place (Some v) (Some v) p.motion p.pos_history p
place_event (MouseMoved v) p = with_place p.latest_pos p.interact_pos (add_motion v p.motion) p.pos_history p
place_event (Button v b true m) p = with_place (Some v) (Some v) p.motion [] p
place_event (Button v b false m) p = with_place (Some v) (Some v) p.motion p.pos_history p
place_event PointerGone p = with_place None p.interact_pos p.motion p.pos_history p
place_event (Zoom x) p = p
place_event (Rotate x) p = p
place_event (Touch d i ph v f) p = p
place_event (MouseWheel u v ph s m) p = p
place_event (WindowFocused b) p = p
place_event Other p = p

unfoldable pub place_events : List Event → Place → Place
place_events [] p = p
place_events (e ∷ es) p = place_events es (place_event e p)

-- `clear_history_after_velocity_calculation`: the pointer is gone in this pass
unfoldable pub clear_history_after : List Event → Bool
clear_history_after [] = false
clear_history_after (Key k b ∷ es) = clear_history_after es
clear_history_after (ModifiersChanged m ∷ es) = clear_history_after es
clear_history_after (PointerMoved v ∷ es) = clear_history_after es
clear_history_after (MouseMoved v ∷ es) = clear_history_after es
clear_history_after (Button v b d m ∷ es) = clear_history_after es
clear_history_after (PointerGone ∷ es) = true
clear_history_after (Zoom x ∷ es) = clear_history_after es
clear_history_after (Rotate x ∷ es) = clear_history_after es
clear_history_after (Touch d i ph v f ∷ es) = clear_history_after es
clear_history_after (MouseWheel u v ph s m ∷ es) = clear_history_after es
clear_history_after (WindowFocused b ∷ es) = clear_history_after es
clear_history_after (Other ∷ es) = clear_history_after es

-- before the events: the interact position is the latest one
unfoldable pub start_place : Place → Place
start_place p = with_place p.latest_pos p.latest_pos (zero_motion p.motion) p.pos_history p

-- `delta`, of the position before the pass and after it
unfoldable pub delta_of : Option Pos2 → Option Pos2 → Vec2
delta_of None new = vec_zero
delta_of (Some a) None = vec_zero
delta_of (Some a) (Some b) = pos_sub b a

unfoldable pub add_latest : Float → Option Pos2 → List Sample → List Sample
add_latest time None h = h
add_latest time (Some v) h = add time v h

-- `velocity`: of at least 3 samples over more than 0.01 s
unfoldable pub velocity_of : List Sample → Vec2
velocity_of h = cond (leb 3 (length h) && lt hundredth (duration h)) (unwrap_or_default (velocity h)) vec_zero

-- h is the history with this pass's sample: the velocity is its, and the direction that of what is kept
unfoldable pub finish_place : Option Pos2 → List Sample → Bool → Place → Place
finish_place old h gone p =
    record {
      latest_pos = p.latest_pos;
      interact_pos = p.interact_pos;
      delta = delta_of old p.latest_pos;
      motion = p.motion;
      velocity = velocity_of h;
      direction = normalized (unwrap_or_default (velocity (cond gone [] h)));
      pos_history = cond gone [] h;
    }

unfoldable pub end_place : Float → Option Pos2 → Bool → Place → Place
end_place time old gone p = finish_place old (flush time (add_latest time p.latest_pos p.pos_history)) gone p

unfoldable pub place_pass : Float → List Event → Place → Place
place_pass time es p = end_place time p.latest_pos (clear_history_after es) (place_events es (start_place p))

-- ---- which buttons are down, and what happened in the pass

pub record Held : Type 0 where
  pub down : ButtonsDown
  pub press_origin : Option Pos2
  pub press_start_time : Option Float
  pub pointer_events : List PointerEvent

-- what presses and clicks leave behind
pub record ClickPast : Type 0 where
  pub has_moved_too_much_for_a_click : Bool
  pub last_click_pos : Option Pos2
  pub last_click_time : Float
  pub last_last_click_time : Float

pub record Press : Type 0 where
  pub held : Held
  pub past : ClickPast

unfoldable pub no_buttons : ButtonsDown
no_buttons = record { primary = false; secondary = false; middle = false; extra1 = false; extra2 = false; count = 0 }

-- 02 A.7: the number of buttons down after one that `was` down or up is set to v. At 5 or over a press leaves it, and at 0 a release
unfoldable pub recount : Bool → Bool → ℕ → ℕ
recount false true n = cond (ltb n button_count) (suc n) n
recount true false n = n - 1
recount true true n = n
recount false false n = n

-- `down[button] = pressed`
unfoldable pub set_down : PointerButton → Bool → ButtonsDown → ButtonsDown
set_down Primary v d = record { primary = v; secondary = d.secondary; middle = d.middle; extra1 = d.extra1; extra2 = d.extra2; count = recount d.primary v d.count }
set_down Secondary v d = record { primary = d.primary; secondary = v; middle = d.middle; extra1 = d.extra1; extra2 = d.extra2; count = recount d.secondary v d.count }
set_down Middle v d = record { primary = d.primary; secondary = d.secondary; middle = v; extra1 = d.extra1; extra2 = d.extra2; count = recount d.middle v d.count }
set_down Extra1 v d = record { primary = d.primary; secondary = d.secondary; middle = d.middle; extra1 = v; extra2 = d.extra2; count = recount d.extra1 v d.count }
set_down Extra2 v d = record { primary = d.primary; secondary = d.secondary; middle = d.middle; extra1 = d.extra1; extra2 = v; count = recount d.extra2 v d.count }

-- `button_down`
unfoldable pub button_down : PointerButton → ButtonsDown → Bool
button_down Primary d = d.primary
button_down Secondary d = d.secondary
button_down Middle d = d.middle
button_down Extra1 d = d.extra1
button_down Extra2 d = d.extra2

-- `any_down`. 02 A.7: "a release event shall scan no flags to ask whether any button is down"
unfoldable pub any_down : ButtonsDown → Bool
any_down d = ltb 0 d.count

-- egui's own: `self.down.iter().any(|&down| down)`
unfoldable pub any_flag : ButtonsDown → Bool
any_flag d = d.primary || d.secondary || d.middle || d.extra1 || d.extra2

-- how many of five flags are set
abbrev pub how_many : Bool → Bool → Bool → Bool → Bool → ℕ
how_many a b c d e = bit_number a + bit_number b + bit_number c + bit_number d + bit_number e

unfoldable pub flags_down : ButtonsDown → ℕ
flags_down d = how_many d.primary d.secondary d.middle d.extra1 d.extra2

-- the number is that of the flags
abbrev pub CountTrue : ButtonsDown → Type 0
CountTrue d = d.count ≡ flags_down d

-- 02 A.7: "The image doesn't hold it; reading works it out"
unfoldable pub buttons : Bool → Bool → Bool → Bool → Bool → ButtonsDown
buttons a b c d e = record { primary = a; secondary = b; middle = c; extra1 = d; extra2 = e; count = how_many a b c d e }

-- `is_press`, `is_release`, `is_click`, and `PointerEvent::Moved`
unfoldable pub is_press : PointerEvent → Bool
is_press (Moved v) = false
is_press (Pressed v b) = true
is_press (Released c b) = false

unfoldable pub is_release : PointerEvent → Bool
is_release (Moved v) = false
is_release (Pressed v b) = false
is_release (Released c b) = true

unfoldable pub is_click : PointerEvent → Bool
is_click (Moved v) = false
is_click (Pressed v b) = false
is_click (Released None b) = false
is_click (Released (Some c) b) = true

unfoldable pub is_move : PointerEvent → Bool
is_move (Moved v) = true
is_move (Pressed v b) = false
is_move (Released c b) = false

unfoldable pub any : (PointerEvent → Bool) → List PointerEvent → Bool
any f [] = false
any f (e ∷ es) = f e || any f es

-- `last_move_time` after a pass at `time` with these pointer events and then this velocity. 02 A.4: "set by a move and by a velocity other than zero"
unfoldable pub move_time : Float → List PointerEvent → Vec2 → Option Float → Option Float
move_time time es v old = cond (any is_move es || vec_ne v vec_zero) (Some time) old

-- is the press older than max_click_duration
unfoldable pub press_too_long : InputOptions → Float → Option Float → Bool
press_too_long o time None = false
press_too_long o time (Some t) = lt o.max_click_duration (sub binary64 time t)

-- `could_any_button_be_click`, with has_moved_too_much_for_a_click beside the record
unfoldable pub could_any_button_be_click : InputOptions → Float → Held → Bool → Bool
could_any_button_be_click o time h moved = (any_down h.down || any is_release h.pointer_events) && not moved && not (press_too_long o time h.press_start_time)

-- `is_decidedly_dragging`
unfoldable pub is_decidedly_dragging : InputOptions → Float → Held → Bool → Bool
is_decidedly_dragging o time h moved =
    (any_down h.down || any is_release h.pointer_events)
    && not (any is_press h.pointer_events)
    && not (could_any_button_be_click o time h moved)
    && not (any is_click h.pointer_events)

-- `is_long_press`
unfoldable pub is_long_press : InputOptions → Float → Press → Bool → Bool
is_long_press o time s started =
    started && (not s.past.has_moved_too_much_for_a_click && (button_down Primary s.held.down && press_too_long o time s.held.press_start_time))

-- `click_dist_sq < max_click_dist * max_click_dist`
unfoldable pub near : InputOptions → Pos2 → Option Pos2 → Bool
near o v None = lt +0 (mul binary32 o.max_click_dist o.max_click_dist)
near o v (Some last) = lt (distance_sq last v) (mul binary32 o.max_click_dist o.max_click_dist)

-- double_click, and what makes it a triple_click
unfoldable pub count_of : Bool → Bool → ℕ
count_of false third = 1
count_of true false = 2
count_of true true = 3

-- `click_count`
unfoldable pub click_count : InputOptions → Float → Pos2 → ClickPast → ℕ
click_count o time v p =
    count_of (lt (sub binary64 time p.last_click_time) o.max_double_click_delay && near o v p.last_click_pos)
    (lt (sub binary64 p.last_click_time p.last_last_click_time) o.max_double_click_delay)

-- a move that is too far from the press for a click
unfoldable pub too_far : InputOptions → Pos2 → Option Pos2 → Bool
too_far o v None = false
too_far o v (Some origin) = lt o.max_click_dist (distance origin v)

unfoldable pub add_event : PointerEvent → Held → Held
add_event e h = record { down = h.down; press_origin = h.press_origin; press_start_time = h.press_start_time; pointer_events = h.pointer_events ++ (e ∷ []) }

unfoldable pub press_button : PointerButton → Float → Pos2 → Held → Held
press_button b time v h = record { down = set_down b true h.down; press_origin = Some v; press_start_time = Some time; pointer_events = h.pointer_events ++ (Pressed v b ∷ []) }

unfoldable pub release_button : PointerButton → Option Click → Held → Held
release_button b c h = record { down = set_down b false h.down; press_origin = None; press_start_time = None; pointer_events = h.pointer_events ++ (Released c b ∷ []) }

unfoldable pub with_moved : Bool → ClickPast → ClickPast
with_moved b p = record { has_moved_too_much_for_a_click = b; last_click_pos = p.last_click_pos; last_click_time = p.last_click_time; last_last_click_time = p.last_last_click_time }

unfoldable pub remember_click : Bool → Float → Pos2 → ClickPast → ClickPast
remember_click false time v p = p
remember_click true time v p =
    record { has_moved_too_much_for_a_click = p.has_moved_too_much_for_a_click; last_click_pos = Some v; last_click_time = time; last_last_click_time = p.last_click_time }

unfoldable pub click_of : Bool → InputOptions → Float → Pos2 → Modifiers → ClickPast → Option Click
click_of false o time v m p = None
click_of true o time v m p = Some (record { pos = v; count = click_count o time v p; modifiers = m })

-- a release, of which it is known whether it clicks
unfoldable pub release : Bool → InputOptions → Float → Pos2 → Modifiers → PointerButton → Press → Press
release clicked o time v m b s = record { held = release_button b (click_of clicked o time v m s.past) s.held; past = remember_click clicked time v s.past }

-- an event's effect on it: whether a release clicks is judged before the button is marked up
unfoldable pub press_event : InputOptions → Float → Event → Press → Press
press_event o time (Key k b) s = s
press_event o time (ModifiersChanged m) s = s
press_event o time (PointerMoved v) s =
    record { held = add_event (Moved v) s.held; past = with_moved (s.past.has_moved_too_much_for_a_click || too_far o v s.held.press_origin) s.past }
press_event o time (MouseMoved v) s = s
press_event o time (Button v b true m) s = record { held = press_button b time v s.held; past = with_moved false s.past }
press_event o time (Button v b false m) s = release (could_any_button_be_click o time s.held s.past.has_moved_too_much_for_a_click) o time v m b s
press_event o time PointerGone s = s
press_event o time (Zoom x) s = s
press_event o time (Rotate x) s = s
press_event o time (Touch d i ph v f) s = s
press_event o time (MouseWheel u v ph g m) s = s
press_event o time (WindowFocused b) s = s
press_event o time Other s = s

unfoldable pub press_events : InputOptions → Float → List Event → Press → Press
press_events o time [] s = s
press_events o time (e ∷ es) s = press_events o time es (press_event o time e s)

-- `pointer_events.clear()`
unfoldable pub clear_events : Held → Held
clear_events h = record { down = h.down; press_origin = h.press_origin; press_start_time = h.press_start_time; pointer_events = [] }

unfoldable pub press_pass : InputOptions → Float → List Event → Press → Press
press_pass o time es s = press_events o time es (record { held = clear_events s.held; past = s.past })
