-- 01, "Edges": the lines marked P and the two after them, as one table. Definitions only.
use Rattle.std.specs.Prelude.{ℕ, ◌+◌, ◌*◌, Bool, true, false, cond, List, [], ◌∷◌, ◌++◌, eqb, replicate, Float, Option, None, Some}
use Rattle.std.specs.Float.{nan, binary64}
use Rattle.std.specs.Float.Ieee.{round}
use Rattle.data.specs.Modifiers.{no_modifiers}
use Rattle.feed.specs.Encode.{encode_all}
use Rattle.model.specs.Options.{default_options}
use Rattle.model.specs.Types.{Pos2, Vec2, Rect, InputOptions, WidgetRect, Primary, Point, Unknown, Trackpad, Start, Move}
use Rattle.model.specs.Types.{PointerEvent, Moved, Pressed, Released, Event, PointerMoved, Button, Touch, MouseWheel}
use Rattle.model.specs.Pass.{PassInput, fresh}
use Rattle.model.specs.Widgets.{no_widgets}
use Rattle.model.specs.Interact.{InteractInput}
use Rattle.model.specs.Questions.{bool, vector, zoom, zoom_2d, events, any_click, pointer_events, smooth_scroll_delta, is_scrolling, zoom_delta, zoom_delta_2d, translation_delta}
use Rattle.edges.specs.Steps.{Step, passes, answers, unprocessed, interacts, inserts, stands_at, State}

-- ---- how a case is written

-- a whole number and four decimals: `dec 1 1250` is 1.125
unfoldable pub dec : ℕ → ℕ → Float
dec a b = round binary64 false (a * 10000 + b) 10000

unfoldable pub pos : ℕ → ℕ → Pos2
pos a b = record { x = dec a 0; y = dec b 0 }

unfoldable pub vec : ℕ → ℕ → Vec2
vec a b = record { x = dec a 0; y = dec b 0 }

-- the defaults, but for max_click_dist, max_click_duration, max_double_click_delay
unfoldable pub options : Float → Float → Float → InputOptions
options distance duration delay =
    record {
      line_scroll_speed = default_options.line_scroll_speed;
      scroll_zoom_speed = default_options.scroll_zoom_speed;
      max_click_dist = distance;
      max_click_duration = duration;
      max_double_click_delay = delay;
      zoom_modifier = default_options.zoom_modifier;
      horizontal_scroll_modifier = default_options.horizontal_scroll_modifier;
      vertical_scroll_modifier = default_options.vertical_scroll_modifier;
    }

unfoldable pub click_distance : Float → InputOptions
click_distance x = options x default_options.max_click_duration default_options.max_double_click_delay

unfoldable pub click_duration : Float → InputOptions
click_duration x = options default_options.max_click_dist x default_options.max_double_click_delay

unfoldable pub delay : Float → InputOptions
delay x = options default_options.max_click_dist default_options.max_click_duration x

-- a pass by what it is given: a time, a screen rectangle, the smoothing factor, options, words
unfoldable pub given : Option Float → Option Rect → Float → InputOptions → List ℕ → PassInput
given t rect factor o ws =
    record {
      time = t;
      screen_rect = rect;
      predicted_dt = dec 0 625;
      smoothing_factor = factor;
      pixels_per_point = dec 1 0;
      focused = true;
      requested_repaint = false;
      options = o;
      feed = ws;
    }

-- a pass at a time, with the smoothing factor 0.5
unfoldable pub pass_at : Float → InputOptions → List Event → PassInput
pass_at t o es = given (Some t) (Some (record { min = pos 0 0; max = pos 640 480 })) (dec 0 5000) o (encode_all es)

unfoldable pub at : Float → InputOptions → List Event → Step
at t o es = passes (pass_at t o es)

unfoldable pub press : Pos2 → Event
press p = Button p Primary true no_modifiers

unfoldable pub release : Pos2 → Event
release p = Button p Primary false no_modifiers

-- a release at p that is a click, and the number that it counts
unfoldable pub clicks : Pos2 → ℕ → PointerEvent
clicks p n = Released (Some (record { pos = p; count = n; modifiers = no_modifiers })) Primary

-- a press and a release at p, in a pass at t: the release is a click that counts n
unfoldable pub click : InputOptions → Float → Pos2 → ℕ → List Step
click o t p n = at t o (press p ∷ release p ∷ []) ∷ answers pointer_events (events (Pressed p Primary ∷ clicks p n ∷ [])) ∷ []

-- a press at t, and a release at u that is a click or not
unfoldable pub held : InputOptions → Float → Float → Bool → List Step
held o t u b = at t o (press (pos 0 0) ∷ []) ∷ at u o (release (pos 0 0) ∷ []) ∷ answers any_click (bool b) ∷ []

unfoldable pub point : Vec2 → Event
point delta = MouseWheel Point delta Move Unknown no_modifiers

-- of device 1
unfoldable pub finger_starts : ℕ → Pos2 → Event
finger_starts i p = Touch 1 i Start p None

unfoldable pub finger_moves : ℕ → Pos2 → Event
finger_moves i p = Touch 1 i Move p None

-- ---- the table

-- "click distance 6, press (0,0), move to (6,0): still a click."
unfoldable pub moved_by_distance : List Step
moved_by_distance =
    at (dec 1 0) (click_distance (dec 6 0)) (press (pos 0 0) ∷ PointerMoved (pos 6 0) ∷ release (pos 6 0) ∷ [])
    ∷ answers pointer_events (events (Pressed (pos 0 0) Primary ∷ Moved (pos 6 0) ∷ clicks (pos 6 0) 1 ∷ [])) ∷ []

-- "A second quick click 6 away counts 1 (36 is not below 36)."
unfoldable pub clicked_by_distance : List Step
clicked_by_distance = click (click_distance (dec 6 0)) (dec 1 0) (pos 0 0) 1 ++ click (click_distance (dec 6 0)) (dec 1 1250) (pos 6 0) 1

-- "delay 0.25, releases at 1.0 and 1.25 count 1, 1"
unfoldable pub delay_over : List Step
delay_over = click (delay (dec 0 2500)) (dec 1 0) (pos 0 0) 1 ++ click (delay (dec 0 2500)) (dec 1 2500) (pos 0 0) 1

-- "at 1.0 and 1.125 count 1, 2"
unfoldable pub within_delay : List Step
within_delay = click (delay (dec 0 2500)) (dec 1 0) (pos 0 0) 1 ++ click (delay (dec 0 2500)) (dec 1 1250) (pos 0 0) 2

-- "click duration 0.75, press 1.0, release 1.75 clicks"
unfoldable pub within_duration : List Step
within_duration = held (click_duration (dec 0 7500)) (dec 1 0) (dec 1 7500) true

-- "1.8125 doesn't"
unfoldable pub duration_over : List Step
duration_over = held (click_duration (dec 0 7500)) (dec 1 0) (dec 1 8125) false

-- "one Point delta (0,8), factor 0.5: smooth 4, unprocessed 4."
unfoldable pub smoothed : List Step
smoothed = at (dec 1 0) default_options (point (vec 0 8) ∷ []) ∷ answers smooth_scroll_delta (vector (vec 0 4)) ∷ unprocessed (vec 0 4) ∷ []

-- "(0,7.5) is wholly smooth."
unfoldable pub smooth_by_itself : List Step
smooth_by_itself =
    at (dec 1 0) default_options (point (record { x = dec 0 0; y = dec 7 5000 }) ∷ [])
    ∷ answers smooth_scroll_delta (vector (record { x = dec 0 0; y = dec 7 5000 })) ∷ unprocessed (vec 0 0) ∷ []

-- "InTouch Trackpad, 1.0 s later the action lasts"
unfoldable pub finger_rests : List Step
finger_rests =
    at (dec 1 0) default_options (MouseWheel Point (vec 0 0) Start Trackpad no_modifiers ∷ []) ∷ at (dec 2 0) default_options [] ∷ answers is_scrolling (bool true) ∷ []

-- "1.125 s ends it."
unfoldable pub finger_gone : List Step
finger_gone =
    at (dec 1 0) default_options (MouseWheel Point (vec 0 0) Start Trackpad no_modifiers ∷ []) ∷ at (dec 2 1250) default_options [] ∷ answers is_scrolling (bool false) ∷ []

-- "Smoothing: 0.125 lasts"
unfoldable pub smoothing_lasts : List Step
smoothing_lasts = at (dec 1 0) default_options (point (vec 0 1) ∷ []) ∷ at (dec 1 1250) default_options [] ∷ answers is_scrolling (bool true) ∷ []

-- "0.25 ends."
unfoldable pub smoothing_ends : List Step
smoothing_ends = at (dec 1 0) default_options (point (vec 0 1) ∷ []) ∷ at (dec 1 2500) default_options [] ∷ answers is_scrolling (bool false) ∷ []

-- "pointer known; touches (0,0), (4,0), in the next pass the second at (8,0): zoom 2, by axis (2,1), translation (2,0)."
unfoldable pub pinched : List Step
pinched =
    at (dec 1 0) default_options (PointerMoved (pos 0 0) ∷ [])
    ∷ at (dec 1 1250) default_options (finger_starts 1 (pos 0 0) ∷ finger_starts 2 (pos 4 0) ∷ [])
    ∷ at (dec 1 2500) default_options (finger_moves 2 (pos 8 0) ∷ [])
    ∷ answers zoom_delta (zoom (dec 2 0) (dec 0 0)) ∷ answers zoom_delta_2d (zoom_2d (vec 2 1) (vec 0 0)) ∷ answers translation_delta (vector (vec 2 0)) ∷ []

-- "pinch dx 3, dy 1 is Proportional.": both axes zoom
unfoldable pub proportional : List Step
proportional =
    at (dec 1 0) default_options (PointerMoved (pos 0 0) ∷ [])
    ∷ at (dec 1 1250) default_options (finger_starts 1 (pos 0 0) ∷ finger_starts 2 (pos 3 1) ∷ [])
    ∷ at (dec 1 2500) default_options (finger_moves 2 (pos 6 2) ∷ [])
    ∷ answers zoom_delta_2d (zoom_2d (vec 2 2) (vec 0 0)) ∷ []

-- a widget with an id and a sense
unfoldable pub widget : ℕ → ℕ → WidgetRect
widget id sense =
    record {
      id = id;
      parent_id = 1;
      layer_id = record { order = 1; id = 1 };
      rect = record { min = pos 0 0; max = pos 9 9 };
      interact_rect = record { min = pos 0 0; max = pos 9 9 };
      sense = sense;
      enabled = true;
      visible = true;
    }

-- a drag-only widget, with the pointer on it
unfoldable pub on_it : InteractInput
on_it =
    record {
      widgets = λ d. cond (eqb d 7) (Some (widget 7 2)) None;
      close = record { id = 7; sense = 2 } ∷ [];
      contains_pointer = record { id = 7; sense = 2 } ∷ [];
      click = None;
      drag = Some (record { id = 7; sense = 2 });
      hovered_places = 66;
      contains_places = 66;
    }

-- "drag-only widget pressed: drag_started in that pass. A release and a press on it in one later pass: neither start nor stop."
unfoldable pub dragged_on : List Step
dragged_on =
    at (dec 1 0) default_options (press (pos 5 5) ∷ [])
    ∷ interacts on_it (record { drag_started = Some 7; dragged = Some 7; drag_stopped = None })
    ∷ at (dec 2 0) default_options (release (pos 5 5) ∷ press (pos 5 5) ∷ [])
    ∷ interacts on_it (record { drag_started = None; dragged = Some 7; drag_stopped = None }) ∷ []

-- "Coincident fingers kept still: zoom is 0/0, not a number."
unfoldable pub coincident : List Step
coincident =
    at (dec 1 0) default_options (PointerMoved (pos 0 0) ∷ [])
    ∷ at (dec 1 1250) default_options (finger_starts 1 (pos 4 4) ∷ finger_starts 2 (pos 4 4) ∷ [])
    ∷ at (dec 1 2500) default_options []
    ∷ answers zoom_delta (zoom nan (dec 0 0)) ∷ answers zoom_delta_2d (zoom_2d (record { x = nan; y = nan }) (vec 0 0)) ∷ []

-- "A lone release with no button down is no click"
unfoldable pub lone_release : List Step
lone_release = at (dec 1 0) default_options (release (pos 0 0) ∷ []) ∷ answers any_click (bool false) ∷ []

-- "a second in that pass can be one."
unfoldable pub second_release : List Step
second_release =
    at (dec 1 0) default_options (release (pos 0 0) ∷ release (pos 0 0) ∷ [])
    ∷ answers pointer_events (events (Released None Primary ∷ clicks (pos 0 0) 1 ∷ [])) ∷ []

-- "widgets a, b, c; a moved to top: b, c, a.": 11, 12, 13 in a slice of three places that holds 99s
unfoldable pub moved_to_top : List Step
moved_to_top =
    inserts false (widget 11 1) (11 ∷ 99 ∷ 99 ∷ [])
    ∷ inserts false (widget 12 1) (11 ∷ 12 ∷ 99 ∷ [])
    ∷ inserts false (widget 13 1) (11 ∷ 12 ∷ 13 ∷ [])
    ∷ inserts true (widget 11 1) (12 ∷ 13 ∷ 11 ∷ []) ∷ stands_at 12 0 ∷ stands_at 13 1 ∷ stands_at 11 2 ∷ []

-- a fresh panel, no widgets
unfoldable pub start : State
start = record { panel = fresh; widgets = no_widgets; slice = replicate 3 (widget 99 0) }

unfoldable pub cases : List (List Step)
cases =
    moved_by_distance ∷ clicked_by_distance ∷ delay_over ∷ within_delay ∷ within_duration ∷ duration_over
    ∷ smoothed ∷ smooth_by_itself ∷ finger_rests ∷ finger_gone ∷ smoothing_lasts ∷ smoothing_ends
    ∷ pinched ∷ proportional ∷ moved_to_top ∷ dragged_on ∷ coincident ∷ lone_release ∷ second_release ∷ []
