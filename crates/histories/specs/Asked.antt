-- Questions of a running panel. What the function of `panel` that answers a question ensures of its answer, at the running panel's own records and
-- lent arrays; by that alone the answer is the model's reply to the question.
use Rattle.std.specs.Prelude.{ℕ, ◌≡◌, List, length}
use Rattle.model.specs.Types.{PointerEvent}
use Rattle.model.specs.Pointer.{any_flag}
use Rattle.model.specs.Pass.{fresh}
use Rattle.model.specs.Calls.{Call, Outcome, run}
use Rattle.model.specs.Questions as ask
use Rattle.model.specs.Questions.{Settled, Question, settled, Reply, bool, events, ask}
use Rattle.pointer_events.specs.Events.{event_or_none}
use Rattle.panel.specs.Answers.{OfClock, OfScreen, OfSums, OfWheel, OfDevices, OfInteraction, OfKeys, OfPresses, OfPlace, OfEvents, OfPress, OfEventCount, OfEventAt}
use Rattle.panel.specs.Answers.{OfWheelAt, OfClickPast, OfLastMove, OfGesture, OfGestureByAxis, OfPlaceAndPress, OfPressing, OfLongPress, OfLongTouch, OfWaiting, OfTally}
use Rattle.theorems.specs.Reach.{FromZero}
use Rattle.histories.specs.History.{Running, shows, Starts, History}

-- ---- what a question's function is given: each is a definition of panel/specs/Answers.antt
pub data Reads : Type 0 where
  by_clock by_screen by_sums by_wheel by_devices by_interaction by_keys by_presses by_place by_events by_press : Reads
  by_wheel_at by_click_past by_last_move by_gesture by_gesture_by_axis by_place_and_press by_pressing by_long_press by_long_touch by_waiting by_tally : Reads
  -- the pointer events, by `pointer_event_count` and `pointer_event`
  by_event_list : Reads

-- of every question there is
abbrev pub settled_by : Settled → Reads
settled_by ask.time = by_clock
settled_by ask.unstable_dt = by_clock
settled_by ask.predicted_dt = by_clock
settled_by ask.stable_dt = by_clock
settled_by ask.focused = by_screen
settled_by ask.modifiers = by_keys
settled_by ask.viewport_rect = by_screen
settled_by ask.pixels_per_point = by_screen
settled_by ask.physical_pixel_size = by_screen
settled_by ask.aim_radius = by_screen
settled_by ask.smooth_scroll_delta = by_sums
settled_by ask.zoom_delta = by_gesture
settled_by ask.zoom_delta_2d = by_gesture_by_axis
settled_by ask.rotation_delta = by_gesture
settled_by ask.translation_delta = by_gesture
settled_by ask.is_scrolling = by_wheel
settled_by ask.scroll_source = by_wheel
settled_by ask.time_since_last_scroll = by_wheel_at
settled_by ask.wants_repaint_after = by_waiting
settled_by (ask.key_down k) = by_keys
settled_by (ask.key_pressed k) = by_presses
settled_by (ask.num_presses k) = by_presses
settled_by ask.feed_was_empty = by_keys
settled_by ask.any_touches = by_devices
settled_by ask.is_long_touch = by_long_touch
settled_by ask.multi_touch = by_devices
settled_by (ask.info_of_device d) = by_devices
settled_by (ask.any_touches_of_device d) = by_devices
settled_by ask.delta = by_place
settled_by ask.motion = by_place
settled_by ask.velocity = by_place
settled_by ask.direction = by_place
settled_by ask.press_origin = by_press
settled_by ask.total_drag_delta = by_place_and_press
settled_by ask.press_start_time = by_press
settled_by ask.latest_pos = by_place
settled_by ask.hover_pos = by_place
settled_by ask.interact_pos = by_place
settled_by ask.has_pointer = by_place
settled_by ask.is_still = by_place
settled_by ask.is_moving = by_place
settled_by ask.any_pressed = by_events
settled_by ask.any_released = by_events
settled_by ask.any_down = by_press
settled_by ask.any_click = by_events
settled_by ask.could_any_button_be_click = by_pressing
settled_by ask.is_decidedly_dragging = by_pressing
settled_by ask.is_long_press = by_long_press
settled_by ask.pointer_events = by_event_list
settled_by (ask.button_pressed b) = by_events
settled_by (ask.button_released b) = by_events
settled_by (ask.button_clicked b) = by_events
settled_by (ask.button_double_clicked b) = by_events
settled_by (ask.button_triple_clicked b) = by_events
settled_by (ask.button_down b) = by_press
settled_by ask.dragged = by_interaction
settled_by ask.potential_click_id = by_interaction
settled_by ask.potential_drag_id = by_interaction

abbrev pub reads : Question → Reads
reads (settled q) = settled_by q
reads ask.time_since_last_click = by_click_past
reads ask.time_since_last_movement = by_last_move
reads ask.has_touch_screen = by_devices
reads ask.tally = by_tally

-- ---- its `ensures`, of panel x
module _ (x : Running) (q : Question) (a : Reply) where
  -- the list that is read by asking how many events there are, and for the one at each place
  pub record ReadsEvents : Type 0 where
    pub list : List PointerEvent
    pub question_is : q ≡ settled ask.pointer_events
    pub reply_is : a ≡ events list
    pub count : OfEventCount x.panel.input.pointer.press (length list)
    pub each : (i : ℕ) → OfEventAt x.panel.input.pointer.press x.lent.codes x.lent.places i (event_or_none list i)

  abbrev pub ensured : Reads → Type 0
  ensured by_clock = OfClock q x.panel.input.clock a
  ensured by_screen = OfScreen q x.panel.input.screen a
  ensured by_sums = OfSums q x.panel.input.sums a
  ensured by_wheel = OfWheel q x.panel.input.wheel a
  ensured by_devices = OfDevices q x.panel.devices a
  ensured by_interaction = OfInteraction q x.panel.interaction a
  ensured by_keys = OfKeys q x.panel.input.keys a
  ensured by_presses = OfPresses q x.lent.presses a
  ensured by_place = OfPlace q x.panel.input.pointer.place a
  ensured by_events = OfEvents q x.panel.input.pointer.press x.lent.codes a
  ensured by_press = OfPress q x.panel.input.pointer.press a
  ensured by_wheel_at = OfWheelAt q x.panel.input.wheel x.panel.input.clock a
  ensured by_click_past = OfClickPast q x.panel.input.pointer.press x.panel.input.clock a
  ensured by_last_move = OfLastMove q x.panel.input.pointer x.panel.input.clock a
  ensured by_gesture = OfGesture q x.panel.devices x.panel.input.sums a
  ensured by_gesture_by_axis = OfGestureByAxis q x.panel.devices x.panel.input.sums x.panel.input.keys x.panel.input.screen a
  ensured by_place_and_press = OfPlaceAndPress q x.panel.input.pointer a
  ensured by_pressing = OfPressing q x.panel.input.clock x.panel.input.screen x.panel.input.pointer.press x.lent.codes a
  ensured by_long_press = OfLongPress q x.panel.input.clock x.panel.input.screen x.panel.input.pointer a
  ensured by_long_touch = OfLongTouch q x.panel.input.clock x.panel.input.screen x.panel.input.pointer x.panel.devices a
  ensured by_waiting =
      OfWaiting q x.panel.input.clock x.panel.input.screen x.panel.input.pointer x.lent.codes x.panel.input.wheel x.panel.input.keys x.panel.devices a
  ensured by_tally = OfTally q x.panel a
  ensured by_event_list = ReadsEvents

-- panel x answers a to q
abbrev pub Answers : Running → Question → Reply → Type 0
Answers x q a = ensured x q a (reads q)

-- ---- every answer is the model's, of any records and lent arrays
abbrev pub EveryAnswerIsTheModels : Type 0
EveryAnswerIsTheModels = (x : Running) (q : Question) (a : Reply) → Answers x q a → ask q (shows x) ≡ a

-- and after every history of calls from a fresh panel it is the reply of the model's run
abbrev pub HistoriesAnswer : Type 0
HistoriesAnswer =
    (x y : Running) (calls : List Call) (answers : List Outcome) → Starts x → History x calls answers y
    → (q : Question) (a : Reply) → Answers y q a → ask q (run fresh calls) ≡ a

-- 02 A.4: so the seconds since the last movement are none, or at least 0
abbrev pub HistoriesRested : Type 0
HistoriesRested =
    (x y : Running) (calls : List Call) (answers : List Outcome) → Starts x → History x calls answers y
    → (a : Reply) → Answers y ask.time_since_last_movement a → FromZero a

-- 02 A.7: and `any_down` answers egui's scan of the running panel's flags
abbrev pub HistoriesAnyDown : Type 0
HistoriesAnyDown =
    (x y : Running) (calls : List Call) (answers : List Outcome) → Starts x → History x calls answers y
    → (a : Reply) → Answers y (settled ask.any_down) a → a ≡ bool (any_flag y.panel.input.pointer.press.held.down)
