-- Edges of the definitions of a pass that 01 names no case for: the wheel, touches, the pointer, keys and sums, refusals. Definitions only.
use Rattle.std.specs.Prelude.{ℕ, zero, suc, ◌+◌, ◌*◌, Bool, true, false, List, [], ◌∷◌, ◌++◌, replicate, Float, None, Some}
use Rattle.std.specs.Float.{binary32, binary64}
use Rattle.std.specs.Float.Ieee.{round, of_bits, to_bits}
use Rattle.data.specs.Modifiers.{no_modifiers}
use Rattle.data.specs.Numbers.{Row}
use Rattle.feed.specs.Encode.{encode_all}
use Rattle.model.specs.Options.{default_options}
use Rattle.model.specs.Types.{Pos2, Vec2, Modifiers, Primary, Secondary, Point, Line, Page, Unknown, Wheel, Trackpad, Momentum, Start, Move, End, Cancel}
use Rattle.model.specs.Types.{TouchPhase, MouseWheelUnit, MouseWheelSource}
use Rattle.model.specs.Types.{MultiTouchInfo, Radians, Headings, Pressed, Released}
use Rattle.model.specs.Types.{Event, Key, ModifiersChanged, PointerMoved, MouseMoved, Button, PointerGone, Zoom, Rotate, Touch, MouseWheel, WindowFocused}
use Rattle.model.specs.Pass.{PassInput}
use Rattle.model.specs.Questions.{bool, count, number, vector, maybe_vector, maybe_position, maybe_seconds, maybe_number, rectangle, flags, source, zoom, zoom_2d, rotation, gesture, events, has_touch_screen}
use Rattle.model.specs.Questions as Q
use Rattle.edges.specs.Steps.{Step, passes, refuses_pass, answers, replies, unprocessed}
use Rattle.edges.specs.Cases.{dec, pos, vec, given, pass_at, at, click_distance, click_duration, delay, press, release, click, point, finger_starts, finger_moves}

-- ---- how a case is written

-- an f32 by a whole number and four decimals
unfoldable pub dec32 : ℕ → ℕ → Float
dec32 a b = round binary32 false (a * 10000 + b) 10000

-- one unit in the last place past a number above 0, as an f64 and as an f32
unfoldable pub past : Float → Float
past x = of_bits binary64 (to_bits binary64 x + 1)

unfoldable pub past32 : Float → Float
past32 x = of_bits binary32 (to_bits binary32 x + 1)

unfoldable pub on_x : Float → Pos2
on_x x = record { x = x; y = dec 0 0 }

-- (0, y), y by a whole number and four decimals
unfoldable pub down : ℕ → ℕ → Vec2
down a b = record { x = dec 0 0; y = dec a b }

unfoldable pub alt_held : Modifiers
alt_held = record { alt = true; ctrl = false; shift = false; mac_cmd = false; command = false }

unfoldable pub ctrl_held : Modifiers
ctrl_held = record { alt = false; ctrl = true; shift = false; mac_cmd = false; command = false }

unfoldable pub shift_held : Modifiers
shift_held = record { alt = false; ctrl = false; shift = true; mac_cmd = false; command = false }

unfoldable pub alt_shift_held : Modifiers
alt_shift_held = record { alt = true; ctrl = false; shift = true; mac_cmd = false; command = false }

-- a pass with the default options
unfoldable pub then : Float → List Event → Step
then t es = at t default_options es

-- a row that returns an index, and one that doesn't
unfoldable pub row : ℕ → ℕ → Row
row n i = record { number = n; index = Some i }

unfoldable pub bare_row : ℕ → Row
bare_row n = record { number = n; index = None }

-- ---- the wheel

-- an event at 0, and a pass without events at t: is the action still there
unfoldable pub lasts : TouchPhase → MouseWheelSource → Float → Bool → List Step
lasts phase from t b =
    then (dec 0 0) (MouseWheel Point (vec 0 1) phase from no_modifiers ∷ []) ∷ then t [] ∷ answers Q.is_scrolling (bool b) ∷ []

-- 01 item 3: "over 0.150 s, or over 1.0 s if InTouch from Trackpad": at the limit and one unit past it
unfoldable pub timeouts : List (List Step)
timeouts =
    lasts Move Wheel (dec 0 1500) true ∷ lasts Move Wheel (past (dec 0 1500)) false
    ∷ lasts Start Trackpad (dec 1 0) true ∷ lasts Start Trackpad (past (dec 1 0)) false
    ∷ lasts Move Trackpad (past (dec 0 1500)) false
    ∷ lasts Start Unknown (past (dec 0 1500)) false ∷ lasts Start Wheel (past (dec 0 1500)) false ∷ lasts Start Momentum (past (dec 0 1500)) false ∷ []

-- a finger rests with ctrl held and scrolls by 8 at t: what scrolls, and the exponent of the zoom
unfoldable pub rested : Float → Vec2 → Float → List Step
rested t v exponent =
    then (dec 0 0) (MouseWheel Point (vec 0 0) Start Trackpad ctrl_held ∷ [])
    ∷ then t (MouseWheel Point (vec 0 8) Move Trackpad no_modifiers ∷ [])
    ∷ answers Q.smooth_scroll_delta (vector v) ∷ answers Q.zoom_delta (zoom (dec 1 0) exponent) ∷ []

-- in touch, the modifiers held before stay; an event after the timeout begins anew
unfoldable pub rests : List (List Step)
rests = rested (dec 1 0) (vec 0 0) (dec32 0 400) ∷ rested (past (dec 1 0)) (vec 0 4) (dec 0 0) ∷ []

-- one Move with the factor 0.5: what is smooth, and what is left
unfoldable pub scrolls : MouseWheelUnit → Vec2 → Modifiers → Vec2 → Vec2 → List Step
scrolls unit delta m smooth left =
    then (dec 1 0) (MouseWheel unit delta Move Wheel m ∷ []) ∷ answers Q.smooth_scroll_delta (vector smooth) ∷ unprocessed left ∷ []

-- units: a line is 40 points, a page the screen's height, and neither is smooth by itself; the axis swap comes before the test for 8 points
unfoldable pub deltas : List (List Step)
deltas =
    scrolls Line (vec 0 1) no_modifiers (vec 0 20) (vec 0 20)
    ∷ scrolls Line (down 0 1250) no_modifiers (down 2 5000) (down 2 5000)
    ∷ scrolls Page (vec 0 1) no_modifiers (vec 0 240) (vec 0 240)
    ∷ scrolls Point (vec 3 4) no_modifiers (vec 3 4) (vec 0 0)
    ∷ scrolls Point (vec 3 4) shift_held (vec 7 0) (vec 0 0)
    ∷ scrolls Point (vec 5 5) shift_held (vec 5 0) (vec 5 0)
    ∷ scrolls Point (vec 5 5) alt_held (vec 0 5) (vec 0 5)
    ∷ scrolls Point (vec 5 5) alt_shift_held (vec 5 5) (vec 0 0) ∷ []

-- in touch every delta is smooth
unfoldable pub in_touch : List Step
in_touch =
    then (dec 1 0) (MouseWheel Point (vec 0 0) Start Trackpad no_modifiers ∷ MouseWheel Line (vec 0 1) Move Trackpad no_modifiers ∷ [])
    ∷ answers Q.smooth_scroll_delta (vector (vec 0 40)) ∷ unprocessed (vec 0 0) ∷ answers Q.scroll_source (source (Some Trackpad)) ∷ []

-- a Start keeps what is left to scroll
unfoldable pub start_keeps : List Step
start_keeps =
    then (dec 1 0) (point (vec 0 64) ∷ MouseWheel Point (vec 0 0) Start Trackpad no_modifiers ∷ [])
    ∷ answers Q.smooth_scroll_delta (vector (vec 0 32)) ∷ unprocessed (vec 0 32) ∷ []

-- End and Cancel leave nothing, and their time counts
unfoldable pub stops : TouchPhase → List Step
stops phase =
    then (dec 1 0) (point (vec 0 64) ∷ [])
    ∷ then (dec 1 625) (point (vec 0 1) ∷ MouseWheel Point (vec 0 64) phase Wheel no_modifiers ∷ [])
    ∷ answers Q.is_scrolling (bool false) ∷ answers Q.scroll_source (source None)
    ∷ answers Q.smooth_scroll_delta (vector (vec 0 0)) ∷ unprocessed (vec 0 0)
    ∷ then (dec 1 5625) [] ∷ answers Q.time_since_last_scroll (number (dec 0 5000)) ∷ []

-- smoothing, the latest modifiers count; what is left scrolls on in the next pass
unfoldable pub modifiers_let_go : List Step
modifiers_let_go =
    then (dec 1 0) (MouseWheel Point (vec 0 8) Move Wheel ctrl_held ∷ [])
    ∷ answers Q.smooth_scroll_delta (vector (vec 0 0)) ∷ answers Q.zoom_delta (zoom (dec 1 0) (dec32 0 200))
    ∷ then (dec 1 625) (MouseWheel Point (vec 0 8) Move Wheel no_modifiers ∷ [])
    ∷ answers Q.smooth_scroll_delta (vector (vec 0 6)) ∷ answers Q.zoom_delta (zoom (dec 1 0) (dec 0 0)) ∷ []

-- 8, halved in each pass: a part below 1 is given whole, and 1 itself is not
unfoldable pub smoothed_out : List Step
smoothed_out =
    then (dec 1 0) (point (vec 0 8) ∷ []) ∷ unprocessed (vec 0 4)
    ∷ then (dec 1 100) [] ∷ answers Q.smooth_scroll_delta (vector (vec 0 2)) ∷ then (dec 1 200) [] ∷ unprocessed (vec 0 1)
    ∷ then (dec 1 300) [] ∷ answers Q.smooth_scroll_delta (vector (down 0 5000)) ∷ unprocessed (down 0 5000)
    ∷ then (dec 1 400) [] ∷ answers Q.smooth_scroll_delta (vector (down 0 5000)) ∷ unprocessed (vec 0 0) ∷ []

-- an action lasts over its timeout while something scrolls
unfoldable pub still_smoothing : List Step
still_smoothing = then (dec 1 0) (point (vec 0 64) ∷ []) ∷ then (dec 3 0) [] ∷ answers Q.is_scrolling (bool true) ∷ []

unfoldable pub of_the_wheel : List (List Step)
of_the_wheel =
    timeouts ++ (rests ++ (deltas ++ (in_touch ∷ start_keeps ∷ stops End ∷ stops Cancel ∷ modifiers_let_go ∷ smoothed_out ∷ still_smoothing ∷ [])))

-- ---- touches

unfoldable pub two_fingers : List Event
two_fingers = finger_starts 1 (pos 0 0) ∷ finger_starts 2 (pos 4 0) ∷ []

-- the info of two fingers at (0,0) and (4,0) in the pass that they came in: its time, and where the gesture started
unfoldable pub started : Float → Pos2 → MultiTouchInfo
started t p =
    record {
      start_time = t;
      start_pos = p;
      center_pos = pos 2 0;
      num_touches = 2;
      zoom_delta = dec 1 0;
      zoom_delta_2d = vec 1 1;
      previous_heading = vec 2 0;
      heading = vec 2 0;
      translation_delta = vec 0 0;
      force = dec 0 0;
    }

unfoldable pub has_started : Float → Pos2 → Step
has_started t p = answers Q.multi_touch (gesture (Some (started t p)))

-- 01 item 4: "The gesture's start position is the pointer's interact position of the pass before.": (1,1), and not this pass's (9,9)
unfoldable pub start_position : List Step
start_position =
    then (dec 1 0) (PointerMoved (pos 1 1) ∷ []) ∷ then (dec 1 1250) (PointerMoved (pos 9 9) ∷ two_fingers) ∷ has_started (dec 1 1250) (pos 1 1) ∷ []

-- without one no gesture starts; it does in the next pass
unfoldable pub no_start_position : List Step
no_start_position =
    then (dec 1 0) (PointerMoved (pos 9 9) ∷ two_fingers)
    ∷ answers Q.multi_touch (gesture None) ∷ answers Q.any_touches (bool true) ∷ then (dec 1 1250) [] ∷ has_started (dec 1 1250) (pos 9 9) ∷ []

-- a pointer gone in the pass before keeps its interact position, and for that pass only
unfoldable pub pointer_just_gone : List Step
pointer_just_gone =
    then (dec 1 0) (PointerMoved (pos 1 1) ∷ PointerGone ∷ [])
    ∷ answers Q.latest_pos (maybe_position None) ∷ answers Q.interact_pos (maybe_position (Some (pos 1 1)))
    ∷ then (dec 1 1250) two_fingers ∷ has_started (dec 1 1250) (pos 1 1) ∷ []

unfoldable pub pointer_long_gone : List Step
pointer_long_gone =
    then (dec 1 0) (PointerMoved (pos 1 1) ∷ PointerGone ∷ []) ∷ then (dec 1 625) [] ∷ answers Q.interact_pos (maybe_position None)
    ∷ then (dec 1 1250) two_fingers ∷ answers Q.multi_touch (gesture None) ∷ []

-- the first finger by id is the heading's, also if it came later; a Start of a held id replaces it
unfoldable pub fingers_by_id : List Step
fingers_by_id =
    then (dec 1 0) (PointerMoved (pos 1 1) ∷ [])
    ∷ then (dec 1 1250) (finger_starts 2 (pos 9 9) ∷ finger_starts 1 (pos 0 0) ∷ finger_starts 2 (pos 4 0) ∷ []) ∷ has_started (dec 1 1250) (pos 1 1) ∷ []

-- a gesture from (0,0) and p; then the events
unfoldable pub from_there : Pos2 → List Event → List Step
from_there p es =
    then (dec 1 0) (PointerMoved (pos 0 0) ∷ []) ∷ then (dec 1 1250) (finger_starts 1 (pos 0 0) ∷ finger_starts 2 p ∷ []) ∷ then (dec 1 2500) es ∷ []

-- the second finger goes from p to q: the zoom by axis. The kind of pinch is that of the start
unfoldable pub pinches : Pos2 → Pos2 → Vec2 → List Step
pinches p q v = from_there p (finger_moves 2 q ∷ []) ++ (answers Q.zoom_delta_2d (zoom_2d v (vec 0 0)) ∷ [])

unfoldable pub pinch_types : List (List Step)
pinch_types =
    pinches (pos 0 4) (pos 0 8) (vec 1 2) ∷ pinches (pos 1 3) (pos 2 6) (vec 2 2) ∷ pinches (pos 4 1) (pos 8 2) (vec 2 1) ∷ pinches (pos 1 4) (pos 2 8) (vec 1 2)
    ∷ pinches (pos 4 0) (pos 0 8) (vec 0 1) ∷ []

-- three fingers zoom alike on both axes
unfoldable pub three_fingers : List Step
three_fingers =
    then (dec 1 0) (PointerMoved (pos 0 0) ∷ [])
    ∷ then (dec 1 1250) (finger_starts 1 (pos 0 0) ∷ finger_starts 2 (pos 3 0) ∷ finger_starts 3 (pos 6 0) ∷ [])
    ∷ then (dec 1 2500) (finger_moves 2 (pos 6 0) ∷ finger_moves 3 (pos 12 0) ∷ []) ∷ answers Q.zoom_delta_2d (zoom_2d (vec 2 2) (vec 0 0)) ∷ []

-- where a finger of the device comes or goes nothing zooms; one of another device does not matter, and the wheel's exponent is not asked
unfoldable pub finger_comes : List Step
finger_comes =
    from_there (pos 4 0) (finger_moves 2 (pos 8 0) ∷ finger_starts 3 (pos 4 8) ∷ [])
    ++ (answers Q.zoom_delta (zoom (dec 1 0) (dec 0 0)) ∷ answers Q.translation_delta (vector (vec 0 0)) ∷ [])

unfoldable pub finger_elsewhere : List Step
finger_elsewhere =
    from_there (pos 4 0) (finger_moves 2 (pos 8 0) ∷ Touch 2 3 Start (pos 4 8) None ∷ MouseWheel Point (vec 0 8) Move Wheel ctrl_held ∷ [])
    ++ (answers Q.zoom_delta (zoom (dec 2 0) (dec 0 0)) ∷ [])

unfoldable pub third_finger_goes : TouchPhase → List Step
third_finger_goes phase =
    then (dec 1 0) (PointerMoved (pos 0 0) ∷ []) ∷ then (dec 1 1250) (two_fingers ++ (finger_starts 3 (pos 4 8) ∷ []))
    ∷ then (dec 1 2500) (finger_moves 2 (pos 8 0) ∷ Touch 1 3 phase (pos 4 8) None ∷ []) ∷ answers Q.zoom_delta (zoom (dec 1 0) (dec 0 0)) ∷ []

-- End and Cancel of one of two fingers end the gesture; the other is still there, and a Move of the lifted one is nothing
unfoldable pub finger_goes : TouchPhase → List Step
finger_goes phase =
    from_there (pos 4 0) (Touch 1 2 phase (pos 4 0) None ∷ [])
    ++ (answers Q.multi_touch (gesture None) ∷ answers Q.any_touches (bool true)
    ∷ then (dec 1 5000) (finger_moves 2 (pos 4 0) ∷ []) ∷ answers Q.multi_touch (gesture None)
    ∷ then (dec 1 7500) (Touch 1 1 phase (pos 0 0) None ∷ []) ∷ answers Q.any_touches (bool false) ∷ replies has_touch_screen (bool true) ∷ [])

-- a gesture's rotation is two headings, its zoom has no exponent, its translation is no scroll
unfoldable pub headings : List Step
headings =
    from_there (pos 4 0) (finger_moves 2 (pos 0 4) ∷ finger_moves 1 (pos 2 0) ∷ MouseWheel Point (vec 0 8) Move Wheel ctrl_held ∷ [])
    ++ (answers Q.rotation_delta (rotation (Headings (vec 2 0) (record { x = round binary32 true 1 1; y = dec 2 0 })))
    ∷ answers Q.translation_delta (vector (record { x = round binary32 true 1 1; y = dec 2 0 }))
    ∷ answers Q.zoom_delta_2d (zoom_2d (record { x = dec 0 5000; y = dec 1 0 }) (vec 0 0)) ∷ [])

-- the average of a force and none
unfoldable pub forces : List Step
forces =
    then (dec 1 0) (PointerMoved (pos 1 1) ∷ [])
    ∷ then (dec 1 1250) (Touch 1 1 Start (pos 0 0) (Some (dec 0 5000)) ∷ finger_starts 2 (pos 4 0) ∷ [])
    ∷ answers (Q.info_of_device 1)
    (gesture (Some
    (record {
      start_time = dec 1 1250;
      start_pos = pos 1 1;
      center_pos = pos 2 0;
      num_touches = 2;
      zoom_delta = dec 1 0;
      zoom_delta_2d = vec 1 1;
      previous_heading = vec 2 0;
      heading = vec 2 0;
      translation_delta = vec 0 0;
      force = dec 0 2500;
    })))
    ∷ answers (Q.info_of_device 2) (gesture None) ∷ []

-- 01 item 6: "those of the first device by id that has one": device 2 alone, then device 1
unfoldable pub first_device : List Step
first_device =
    then (dec 1 0) (PointerMoved (pos 1 1) ∷ [])
    ∷ then (dec 1 1250) (Touch 2 1 Start (pos 0 0) None ∷ Touch 2 2 Start (pos 4 0) None ∷ finger_starts 1 (pos 0 0) ∷ [])
    ∷ has_started (dec 1 1250) (pos 1 1)
    ∷ then (dec 1 2500) (finger_starts 2 (pos 4 0) ∷ []) ∷ has_started (dec 1 2500) (pos 1 1) ∷ []

unfoldable pub of_touches : List (List Step)
of_touches =
    start_position ∷ no_start_position ∷ pointer_just_gone ∷ pointer_long_gone ∷ fingers_by_id ∷ three_fingers ∷ finger_comes ∷ finger_elsewhere ∷ third_finger_goes End ∷ third_finger_goes Cancel
    ∷ finger_goes End ∷ finger_goes Cancel ∷ headings ∷ forces ∷ first_device ∷ pinch_types

-- ---- the pointer

-- one unit past the click distance is too far, also if the pointer comes back; the next press may click
unfoldable pub moved_too_far : List Step
moved_too_far =
    at (dec 1 0) (click_distance (dec 6 0)) (press (pos 0 0) ∷ PointerMoved (on_x (past32 (dec 6 0))) ∷ PointerMoved (pos 0 0) ∷ release (pos 0 0) ∷ [])
    ∷ answers Q.any_click (bool false)
    ∷ at (dec 2 0) (click_distance (dec 6 0)) (press (pos 0 0) ∷ release (pos 0 0) ∷ []) ∷ answers (Q.button_clicked Primary) (bool true) ∷ []

-- clicks in one place: their times, and what each counts
unfoldable pub click_times : List (Float × ℕ) → List Step
click_times [] = []
click_times (c ∷ cs) = click (delay (dec 0 2500)) c.0 (pos 0 0) c.1 ++ click_times cs

-- a triple click looks at the two clicks before it, and a fourth counts 3 again; elsewhere the count starts anew
unfoldable pub triple : List Step
triple =
    click_times ((dec 1 0, 1) ∷ (dec 1 1250, 2) ∷ (dec 1 2500, 3) ∷ (dec 1 3750, 3) ∷ [])
    ++ (answers (Q.button_triple_clicked Primary) (bool true) ∷ answers (Q.button_double_clicked Primary) (bool false)
    ∷ click (delay (dec 0 2500)) (dec 1 4375) (pos 90 0) 1)

unfoldable pub not_triple : List Step
not_triple = click_times ((dec 1 0, 1) ∷ (dec 1 2500, 1) ∷ (dec 1 3750, 2) ∷ [])

-- a click carries the release's button and flags
unfoldable pub flags_of_release : List Step
flags_of_release =
    then (dec 1 0) (Button (pos 1 1) Secondary true ctrl_held ∷ Button (pos 2 1) Secondary false shift_held ∷ [])
    ∷ answers Q.pointer_events
    (events (Pressed (pos 1 1) Secondary ∷ Released (Some (record { pos = pos 2 1; count = 1; modifiers = shift_held })) Secondary ∷ []))
    ∷ answers (Q.button_released Secondary) (bool true) ∷ answers (Q.button_clicked Primary) (bool false) ∷ answers Q.any_down (bool false) ∷ []

-- a press at 1.0 with the click duration 0.75, held to t: could it be a click, is it decidedly dragged, is it a long press
unfoldable pub pressed_until : Event → Float → Bool → Bool → Bool → List Step
pressed_until e t b d l =
    at (dec 1 0) (click_duration (dec 0 7500)) (e ∷ []) ∷ at t (click_duration (dec 0 7500)) []
    ∷ answers Q.could_any_button_be_click (bool b) ∷ answers Q.is_decidedly_dragging (bool d) ∷ answers Q.is_long_press (bool l) ∷ []

unfoldable pub presses : List (List Step)
presses =
    pressed_until (press (pos 0 0)) (dec 1 7500) true false false
    ∷ pressed_until (press (pos 0 0)) (past (dec 1 7500)) false true true
    ∷ pressed_until (Button (pos 0 0) Secondary true no_modifiers) (dec 2 0) false true false ∷ []

-- a press that moved too far is dragged from the next pass on, and in the pass of its release too; it is no long press
unfoldable pub decided : List Step
decided =
    then (dec 1 0) (press (pos 0 0) ∷ PointerMoved (pos 100 0) ∷ []) ∷ answers Q.could_any_button_be_click (bool false) ∷ answers Q.is_decidedly_dragging (bool false)
    ∷ then (dec 2 0) [] ∷ answers Q.is_decidedly_dragging (bool true) ∷ answers Q.is_long_press (bool false)
    ∷ then (dec 2 1250) (release (pos 100 0) ∷ []) ∷ answers Q.is_decidedly_dragging (bool true)
    ∷ then (dec 2 2500) [] ∷ answers Q.is_decidedly_dragging (bool false) ∷ []

-- a long touch is one pass long, and wants a repaint before it
unfoldable pub long_touch : List Step
long_touch =
    at (dec 1 0) (click_duration (dec 0 7500)) (press (pos 0 0) ∷ finger_starts 1 (pos 0 0) ∷ []) ∷ answers Q.wants_repaint_after (maybe_seconds (Some (dec 0 0)))
    ∷ at (dec 1 2500) (click_duration (dec 0 7500)) [] ∷ answers Q.wants_repaint_after (maybe_seconds (Some (dec 0 5000)))
    ∷ at (dec 1 7500) (click_duration (dec 0 7500)) [] ∷ answers Q.wants_repaint_after (maybe_seconds None) ∷ answers Q.is_long_touch (bool false)
    ∷ at (dec 2 0) (click_duration (dec 0 7500)) [] ∷ answers Q.is_long_touch (bool true)
    ∷ at (dec 3 0) (click_duration (dec 0 7500)) [] ∷ answers Q.is_long_touch (bool false) ∷ []

-- 0.25 left to scroll wants a repaint, 0.125 does not (the limit is 0.2): a pass with the factor 15/16
unfoldable pub slow_repaint : List Step
slow_repaint =
    then (dec 1 0) (point (vec 0 8) ∷ [])
    ∷ passes (given (Some (dec 1 100)) None (dec 0 9375) default_options []) ∷ answers Q.wants_repaint_after (maybe_seconds (Some (dec 0 0))) ∷ []

unfoldable pub no_repaint : List Step
no_repaint =
    then (dec 1 0) (point (vec 0 8) ∷ []) ∷ then (dec 1 100) []
    ∷ passes (given (Some (dec 1 200)) None (dec 0 9375) default_options []) ∷ answers Q.wants_repaint_after (maybe_seconds None) ∷ []

-- `delta` is from the pass before to the end of this one; a press sets the origin, a release takes it away
unfoldable pub drags_delta : List Step
drags_delta =
    then (dec 1 0) (PointerMoved (pos 1 1) ∷ []) ∷ answers Q.delta (vector (vec 0 0))
    ∷ then (dec 1 1250) (press (pos 2 2) ∷ PointerMoved (pos 7 7) ∷ PointerMoved (pos 4 5) ∷ [])
    ∷ answers Q.delta (vector (vec 3 4)) ∷ answers Q.total_drag_delta (maybe_vector (Some (vec 2 3)))
    ∷ answers Q.press_origin (maybe_position (Some (pos 2 2))) ∷ answers Q.press_start_time (maybe_seconds (Some (dec 1 1250)))
    ∷ then (dec 1 2500) (release (pos 4 5) ∷ PointerGone ∷ [])
    ∷ answers Q.delta (vector (vec 0 0)) ∷ answers Q.total_drag_delta (maybe_vector None)
    ∷ answers Q.press_origin (maybe_position None) ∷ answers Q.press_start_time (maybe_seconds None) ∷ answers Q.has_pointer (bool false) ∷ []

-- three samples, two of them at 0 and the last, 2 points further, at t
unfoldable pub three_samples : Float → List Step
three_samples t = then (dec 0 0) (PointerMoved (pos 0 0) ∷ []) ∷ then (dec 0 0) (PointerMoved (pos 1 0) ∷ []) ∷ then t (PointerMoved (pos 2 0) ∷ []) ∷ []

unfoldable pub moving : Float → Bool → List Step
moving t b = three_samples t ++ (answers Q.is_moving (bool b) ∷ [])

-- a velocity is over more than 0.01 s (an f32), of samples no older than 0.1 s (an f32, widened)
unfoldable pub velocities : List (List Step)
velocities = moving (dec32 0 100) false ∷ moving (past32 (dec32 0 100)) true ∷ moving (dec32 0 1000) true ∷ moving (past (dec32 0 1000)) false ∷ []

-- a pointer that is gone leaves its velocity for this pass, and no direction; a press forgets the samples before it
unfoldable pub gone_moving : List Step
gone_moving =
    three_samples (dec 0 625) ++ (answers Q.velocity (vector (vec 32 0)) ∷ answers Q.direction (vector (vec 1 0))
    ∷ then (dec 0 625) (PointerGone ∷ []) ∷ answers Q.velocity (vector (vec 32 0)) ∷ answers Q.direction (vector (vec 0 0))
    ∷ then (dec 0 625) [] ∷ answers Q.velocity (vector (vec 0 0)) ∷ [])

unfoldable pub pressed_moving : List Step
pressed_moving =
    then (dec 0 0) (PointerMoved (pos 0 0) ∷ []) ∷ then (dec 0 0) (PointerMoved (pos 1 0) ∷ []) ∷ then (dec 0 625) (press (pos 2 0) ∷ [])
    ∷ answers Q.is_still (bool true) ∷ answers Q.direction (vector (vec 0 0)) ∷ []

-- relative motion adds up, and is zero in later passes
unfoldable pub motions : List Step
motions =
    then (dec 1 0) [] ∷ answers Q.motion (maybe_vector None)
    ∷ then (dec 2 0) (MouseMoved (vec 1 1) ∷ MouseMoved (vec 2 3) ∷ []) ∷ answers Q.motion (maybe_vector (Some (vec 3 4)))
    ∷ then (dec 3 0) [] ∷ answers Q.motion (maybe_vector (Some (vec 0 0))) ∷ []

-- 02 A.4: none before any movement; relative motion, a press and a gone pointer are none; a move to the same place is one; a refused pass leaves it
unfoldable pub moved_ago : Float → Step
moved_ago x = replies Q.time_since_last_movement (maybe_number (Some x))

unfoldable pub pointer_rests : List Step
pointer_rests =
    replies Q.time_since_last_movement (maybe_number None)
    ∷ then (dec 0 5000) (MouseMoved (vec 1 1) ∷ press (pos 1 1) ∷ []) ∷ replies Q.time_since_last_movement (maybe_number None)
    ∷ then (dec 1 0) (PointerMoved (pos 3 4) ∷ []) ∷ moved_ago (dec 0 0) ∷ then (dec 1 5000) [] ∷ moved_ago (dec 0 5000)
    ∷ refuses_pass (pass_at (dec 1 0) default_options (PointerMoved (pos 5 5) ∷ [])) (bare_row 3) ∷ moved_ago (dec 0 5000)
    ∷ then (dec 2 0) (PointerGone ∷ []) ∷ moved_ago (dec 1 0) ∷ then (dec 3 0) (PointerMoved (pos 3 4) ∷ []) ∷ moved_ago (dec 0 0) ∷ []

-- as long as there is a velocity it is 0, also where the pointer is gone
unfoldable pub pointer_rests_moving : List Step
pointer_rests_moving = three_samples (dec 0 625) ++ (then (dec 0 825) (PointerGone ∷ []) ∷ moved_ago (dec 0 0) ∷ then (dec 1 825) [] ∷ moved_ago (dec 1 0) ∷ [])

unfoldable pub of_the_pointer : List (List Step)
of_the_pointer =
    pointer_rests ∷ pointer_rests_moving ∷ moved_too_far ∷ triple ∷ not_triple ∷ flags_of_release ∷ decided ∷ long_touch ∷ slow_repaint ∷ no_repaint ∷ drags_delta ∷ gone_moving ∷ pressed_moving ∷ motions
    ∷ (presses ++ velocities)

-- ---- keys, sums, the clock and the screen

-- presses are counted by pass; lost focus lets go of keys and modifiers, and of no count
unfoldable pub keys : List Step
keys =
    then (dec 1 0) (Key 5 true ∷ Key 5 true ∷ Key 6 true ∷ Key 6 false ∷ ModifiersChanged ctrl_held ∷ WindowFocused true ∷ [])
    ∷ answers (Q.num_presses 5) (count 2) ∷ answers (Q.key_down 5) (bool true) ∷ answers (Q.key_pressed 6) (bool true) ∷ answers (Q.key_down 6) (bool false)
    ∷ answers Q.modifiers (flags ctrl_held)
    ∷ then (dec 2 0) [] ∷ answers (Q.num_presses 5) (count 0) ∷ answers (Q.key_down 5) (bool true) ∷ answers Q.feed_was_empty (bool true)
    ∷ then (dec 3 0) (Key 7 true ∷ WindowFocused false ∷ []) ∷ answers (Q.key_down 5) (bool false) ∷ answers (Q.key_pressed 7) (bool true)
    ∷ answers Q.modifiers (flags no_modifiers) ∷ answers Q.feed_was_empty (bool false) ∷ []

-- factors are multiplied, radians added, in one pass
unfoldable pub zooms_and_turns : List Step
zooms_and_turns =
    then (dec 1 0) (Zoom (dec 2 0) ∷ Rotate (dec 0 5000) ∷ Zoom (dec 3 0) ∷ Rotate (dec 0 2500) ∷ [])
    ∷ answers Q.zoom_delta (zoom (dec 6 0) (dec 0 0)) ∷ answers Q.rotation_delta (rotation (Radians (dec 0 7500)))
    ∷ then (dec 2 0) [] ∷ answers Q.zoom_delta (zoom (dec 1 0) (dec 0 0)) ∷ answers Q.rotation_delta (rotation (Radians (dec 0 0))) ∷ []

-- with modifiers, a zoom by 2 and the wheel's exponent 0.02: 01 item 6, "a suppressed axis has factor 1 and exponent 0"
unfoldable pub zooms_by : Modifiers → Vec2 → Vec2 → List Step
zooms_by m factor exponent =
    then (dec 1 0) (ModifiersChanged m ∷ Zoom (dec 2 0) ∷ MouseWheel Point (vec 0 8) Move Wheel ctrl_held ∷ []) ∷ answers Q.zoom_delta_2d (zoom_2d factor exponent) ∷ []

unfoldable pub axes : List (List Step)
axes =
    zooms_by no_modifiers (vec 2 2) (record { x = dec32 0 200; y = dec32 0 200 }) ∷ zooms_by shift_held (vec 2 1) (record { x = dec32 0 200; y = dec 0 0 })
    ∷ zooms_by alt_held (vec 1 2) (record { x = dec 0 0; y = dec32 0 200 }) ∷ zooms_by alt_shift_held (vec 2 2) (record { x = dec32 0 200; y = dec32 0 200 }) ∷ []

-- no time given: the old one and predicted dt; no rectangle given: the old one, whose height is a page
unfoldable pub not_given : List Step
not_given =
    then (dec 1 0) [] ∷ passes (given None None (dec 0 5000) default_options (encode_all (MouseWheel Page (vec 0 1) Move Wheel no_modifiers ∷ [])))
    ∷ answers Q.time (number (dec 1 625)) ∷ answers Q.unstable_dt (number (dec 0 625)) ∷ answers Q.stable_dt (number (dec 0 625))
    ∷ answers Q.viewport_rect (rectangle (record { min = pos 0 0; max = pos 640 480 })) ∷ answers Q.smooth_scroll_delta (vector (vec 0 240))
    ∷ then (dec 3 625) [] ∷ answers Q.unstable_dt (number (dec 2 0)) ∷ answers Q.stable_dt (number (dec 0 625)) ∷ []

-- after a requested repaint the stable dt is the measured one; two pixels to a point
unfoldable pub requested : PassInput
requested =
    record {
      time = Some (dec 3 0);
      screen_rect = None;
      predicted_dt = dec 0 1250;
      smoothing_factor = dec 0 5000;
      pixels_per_point = dec 2 0;
      focused = false;
      requested_repaint = true;
      options = default_options;
      feed = [];
    }

unfoldable pub repaint_requested : List Step
repaint_requested =
    then (dec 1 0) [] ∷ answers Q.focused (bool true) ∷ passes requested
    ∷ answers Q.stable_dt (number (dec 2 0)) ∷ answers Q.predicted_dt (number (dec 0 1250)) ∷ answers Q.focused (bool false)
    ∷ answers Q.pixels_per_point (number (dec 2 0)) ∷ answers Q.physical_pixel_size (number (dec 0 5000)) ∷ answers Q.aim_radius (number (dec 0 5000)) ∷ []

unfoldable pub never_given : List Step
never_given =
    passes (given None None (dec 0 5000) default_options (encode_all (MouseWheel Page (vec 0 1) Move Wheel no_modifiers ∷ [])))
    ∷ answers Q.time (number (dec 0 625)) ∷ answers Q.smooth_scroll_delta (vector (vec 0 5000)) ∷ []

-- ---- refusals of a pass

-- a feed as words, at 1.0
unfoldable pub words : List ℕ → PassInput
words ws = given (Some (dec 1 0)) None (dec 0 5000) default_options ws

unfoldable pub refused : List ℕ → Row → List Step
refused ws r = refuses_pass (words ws) r ∷ []

unfoldable pub taken : List ℕ → List Step
taken ws = passes (words ws) ∷ []

-- 1: kinds 0 and 13, a motion cut short, a stray bit, key 145 (144 is Clear), button 5, unit 3; the index is the event's first word
unfoldable pub malformed : List (List Step)
malformed =
    refused (0x0000_0000 ∷ []) (row 1 0) ∷ refused (0xd000_0000 ∷ []) (row 1 0) ∷ refused (0x3000_0000 ∷ 0 ∷ []) (row 1 0) ∷ refused (0x6000_0001 ∷ []) (row 1 0)
    ∷ refused (0x1000_0091 ∷ []) (row 1 0) ∷ taken (0x1000_0090 ∷ []) ∷ refused (0x5000_00a0 ∷ 0 ∷ 0 ∷ []) (row 1 0) ∷ refused (0xa000_0060 ∷ 0 ∷ 0 ∷ []) (row 1 0)
    ∷ refused (encode_all (press (pos 0 0) ∷ PointerGone ∷ []) ++ (0 ∷ [])) (row 1 4) ∷ []

-- an event at a limit of the domain is taken, and one unit past it is 2
unfoldable pub limit_of : (Float → Event) → Float → List (List Step)
limit_of e x = taken (encode_all (e x ∷ [])) ∷ refused (encode_all (e (past32 x) ∷ [])) (row 2 0) ∷ []

unfoldable pub domain : List (List Step)
domain =
    limit_of (λ x. PointerMoved (on_x x)) (dec 65536 0) ++ (limit_of Zoom (dec 1024 0) ++ (limit_of Rotate (dec 64 0)
    ++ (limit_of (λ x. Touch 1 1 Start (pos 0 0) (Some x)) (dec 1 0) ++ (limit_of (λ x. MouseMoved (record { x = x; y = x })) (dec 65536 0)
    ++ (refused (encode_all (Zoom (dec 0 0) ∷ [])) (row 2 0) ∷ [])))))

-- device d, touch i
unfoldable pub touch : ℕ → ℕ → TouchPhase → Event
touch d i phase = Touch d i phase (pos 0 0) None

unfoldable pub four_devices : List Event
four_devices = touch 1 1 Start ∷ touch 2 1 Move ∷ touch 3 1 End ∷ touch 4 1 Cancel ∷ []

-- 5: "a fifth device", by an event of any phase, in the feed of the fourth or later
unfoldable pub fifth_device : List Step
fifth_device =
    refuses_pass (words (encode_all (four_devices ++ (touch 5 1 Move ∷ [])))) (row 5 28)
    ∷ passes (words (encode_all four_devices)) ∷ refuses_pass (words (encode_all (touch 5 1 Move ∷ []))) (row 5 0) ∷ refuses_pass (words (encode_all (touch 5 1 End ∷ []))) (row 5 0)
    ∷ passes (words (encode_all (touch 4 1 Start ∷ []))) ∷ []

-- fingers 1 to n start
unfoldable pub fingers : ℕ → List Event
fingers zero = []
fingers (suc n) = touch 1 (suc n) Start ∷ fingers n

-- 5: "Start of an eleventh touch": not of a held one, not a Move, and not if one ends before it
unfoldable pub eleventh_touch : List Step
eleventh_touch =
    passes (words (encode_all (fingers 10)))
    ∷ refuses_pass (words (encode_all (PointerGone ∷ touch 1 11 Start ∷ []))) (row 5 1)
    ∷ passes (words (encode_all (touch 1 10 Start ∷ touch 1 11 Move ∷ touch 2 1 Start ∷ touch 1 3 End ∷ touch 1 11 Start ∷ [])))
    ∷ refuses_pass (words (encode_all (touch 1 3 Start ∷ []))) (row 5 0) ∷ []

-- 4: event 65, also if it is malformed; the earlier event comes first
unfoldable pub crowds : List (List Step)
crowds =
    taken (replicate 64 0xc000_0000) ∷ refused (replicate 64 0xc000_0000 ++ (0 ∷ [])) (row 4 64) ∷ refused (replicate 63 0xc000_0000 ++ (0 ∷ 0 ∷ [])) (row 1 63) ∷ []

-- "Pass: 2 for its own numbers, 3, then event by event 4, 1, 2, 5": what breaks two rows answers the earlier, and an earlier event before a later one
unfoldable pub pass_order : List (List Step)
pass_order =
    (then (dec 2 0) []
    ∷ refuses_pass (given (Some (dec 1 0)) None (past32 (dec 1 0)) default_options (0 ∷ [])) (row 2 0)
    ∷ refuses_pass (given (Some (dec 1 0)) None (dec 1 0) default_options (0 ∷ [])) (bare_row 3)
    ∷ refuses_pass (given (Some (past (dec 4294967296 0))) None (dec 1 0) default_options []) (row 2 0)
    ∷ refuses_pass (given (Some (dec 2 0)) None (dec 1 0) (click_duration (past (dec 3600 0))) []) (row 2 0)
    ∷ passes (given (Some (dec 2 0)) None (dec 1 0) (click_duration (dec 3600 0)) [])
    ∷ passes (given (Some (dec 4294967296 0)) None (dec 1 0) default_options []) ∷ [])
    ∷ refused (0x3000_0001 ∷ 0x7fc0_0000 ∷ 0 ∷ []) (row 1 0)
    ∷ refused (0x3000_0000 ∷ 0x7fc0_0000 ∷ 0 ∷ 0 ∷ []) (row 2 0)
    ∷ refused (encode_all (four_devices ++ (Touch 5 1 Start (on_x (past32 (dec 65536 0))) None ∷ []))) (row 2 28)
    ∷ refused (encode_all (four_devices ++ (touch 5 1 Start ∷ PointerMoved (on_x (past32 (dec 65536 0))) ∷ []))) (row 5 28) ∷ []

unfoldable pub of_a_pass : List (List Step)
of_a_pass =
    keys ∷ zooms_and_turns ∷ not_given ∷ repaint_requested ∷ never_given ∷ fifth_device ∷ eleventh_touch ∷ (axes ++ (malformed ++ (domain ++ (crowds ++ pass_order))))

unfoldable pub pass_edges : List (List Step)
pass_edges = of_the_wheel ++ (of_touches ++ (of_the_pointer ++ of_a_pass))
