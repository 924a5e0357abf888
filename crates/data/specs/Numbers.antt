-- 01's number of each case of each enum: "a definition states this paper's number and values for each of the enum's cases".
use Rattle.std.specs.Prelude.{ℕ, List, [], ◌∷◌, Float, Option, None, Some}
use Rattle.data.specs.Kinds.{key_kind, modifiers_kind, moved_kind, motion_kind, button_kind, gone_kind, zoom_kind, rotate_kind, touch_kind, wheel_kind, focus_kind, other_kind}
use Rattle.data.specs.Types.{Pos2, Click}
use Rattle.data.specs.Types.{PointerButton, Primary, Secondary, Middle, Extra1, Extra2, TouchPhase, Start, Move, End, Cancel}
use Rattle.data.specs.Types.{MouseWheelUnit, Point, Line, Page, MouseWheelSource, Unknown, Wheel, Trackpad, Momentum}
use Rattle.data.specs.Types.{Status, Static, Smoothing, InTouch, PinchType, Horizontal, Vertical, Proportional}
use Rattle.data.specs.Types.{Rotation, Radians, Headings, PointerEvent, Moved, Pressed, Released}
use Rattle.data.specs.Types.{Event, Key, ModifiersChanged, PointerMoved, MouseMoved, Button, PointerGone, Zoom, Rotate, Touch, MouseWheel, WindowFocused, Other}
use Rattle.data.specs.Types.{PassRefusal, Malformed, OutsideDomain, TimeBelow, TooManyEvents, NoPlace}
use Rattle.data.specs.Types.{InsertRefusal, InteractRefusal}
use Rattle.data.specs.Types.insertion as insertion
use Rattle.data.specs.Types.interaction as interaction

-- "button 0–4", in the order of pointer_button.rs
abbrev pub button_number : PointerButton → ℕ
button_number Primary = 0
button_number Secondary = 1
button_number Middle = 2
button_number Extra1 = 3
button_number Extra2 = 4

-- "Phases: 0 Start, 1 Move, 2 End, 3 Cancel"
abbrev pub phase_number : TouchPhase → ℕ
phase_number Start = 0
phase_number Move = 1
phase_number End = 2
phase_number Cancel = 3

-- "unit (Point, Line, Page)"
abbrev pub unit_number : MouseWheelUnit → ℕ
unit_number Point = 0
unit_number Line = 1
unit_number Page = 2

-- "source (Unknown, Wheel, Trackpad, Momentum)"
abbrev pub source_number : MouseWheelSource → ℕ
source_number Unknown = 0
source_number Wheel = 1
source_number Trackpad = 2
source_number Momentum = 3

-- the order of wheel_state.rs
abbrev pub status_number : Status → ℕ
status_number Static = 0
status_number Smoothing = 1
status_number InTouch = 2

-- the order of touch_state.rs
abbrev pub pinch_number : PinchType → ℕ
pinch_number Horizontal = 0
pinch_number Vertical = 1
pinch_number Proportional = 2

-- "either a sum of radians or two heading vectors"
abbrev pub rotation_number : Rotation → ℕ
rotation_number (Radians sum) = 0
rotation_number (Headings previous current) = 1

-- the sum, or the previous heading and the current one
abbrev pub rotation_values : Rotation → List Float
rotation_values (Radians sum) = sum ∷ []
rotation_values (Headings previous current) = previous.x ∷ previous.y ∷ current.x ∷ current.y ∷ []

-- the order of input_state/mod.rs
abbrev pub pointer_event_number : PointerEvent → ℕ
pointer_event_number (Moved pos) = 0
pointer_event_number (Pressed pos button) = 1
pointer_event_number (Released click button) = 2

-- its values: the position of a move or a press; the button of a press or a release; and "a release carries a click or none"
abbrev pub pointer_event_position : PointerEvent → Option Pos2
pointer_event_position (Moved pos) = Some pos
pointer_event_position (Pressed pos button) = Some pos
pointer_event_position (Released click button) = None

abbrev pub pointer_event_button : PointerEvent → Option ℕ
pointer_event_button (Moved pos) = None
pointer_event_button (Pressed pos button) = Some (button_number button)
pointer_event_button (Released click button) = Some (button_number button)

abbrev pub pointer_event_click : PointerEvent → Option Click
pointer_event_click (Moved pos) = None
pointer_event_click (Pressed pos button) = None
pointer_event_click (Released None button) = None
pointer_event_click (Released (Some click) button) = Some click

-- the kind, of "The feed"
abbrev pub kind_number : Event → ℕ
kind_number (Key place pressed) = key_kind
kind_number (ModifiersChanged m) = modifiers_kind
kind_number (PointerMoved pos) = moved_kind
kind_number (MouseMoved delta) = motion_kind
kind_number (Button pos b pressed m) = button_kind
kind_number PointerGone = gone_kind
kind_number (Zoom factor) = zoom_kind
kind_number (Rotate radians) = rotate_kind
kind_number (Touch device id phase pos force) = touch_kind
kind_number (MouseWheel unit delta phase source m) = wheel_kind
kind_number (WindowFocused focused) = focus_kind
kind_number Other = other_kind

-- what a row of "Answers of a refused call" returns: its number, and an index in the rows that return one
pub record Row : Type 0 where
  pub number : ℕ
  pub index : Option ℕ

-- "Pass: 2 for its own numbers, 3, then event by event 4, 1, 2, 5"
abbrev pub pass_refusal_number : PassRefusal → ℕ
pass_refusal_number (Malformed index) = 1
pass_refusal_number (OutsideDomain index) = 2
pass_refusal_number TimeBelow = 3
pass_refusal_number (TooManyEvents index) = 4
pass_refusal_number (NoPlace index) = 5

-- "Word indices, and row 4's index in a pass, name an event's first word"; row 3 has none
abbrev pub pass_refusal_index : PassRefusal → Option ℕ
pass_refusal_index (Malformed index) = Some index
pass_refusal_index (OutsideDomain index) = Some index
pass_refusal_index TimeBelow = None
pass_refusal_index (TooManyEvents index) = Some index
pass_refusal_index (NoPlace index) = Some index

abbrev pub pass_row : PassRefusal → Row
pass_row q = record { number = pass_refusal_number q; index = pass_refusal_index q }

-- "Insert: 1, 9, 2, 7, 6, 8"
abbrev pub insert_refusal_number : InsertRefusal → ℕ
insert_refusal_number insertion.Malformed = 1
insert_refusal_number insertion.OutsideDomain = 2
insert_refusal_number insertion.Full = 6
insert_refusal_number insertion.OtherLayer = 7
insert_refusal_number insertion.ShortSlice = 8
insert_refusal_number insertion.ZeroId = 9

-- "in insert it is 0", in the rows that return one
abbrev pub insert_refusal_index : InsertRefusal → Option ℕ
insert_refusal_index insertion.Malformed = Some 0
insert_refusal_index insertion.OutsideDomain = Some 0
insert_refusal_index insertion.Full = None
insert_refusal_index insertion.OtherLayer = None
insert_refusal_index insertion.ShortSlice = None
insert_refusal_index insertion.ZeroId = None

abbrev pub insert_row : InsertRefusal → Row
insert_row q = record { number = insert_refusal_number q; index = insert_refusal_index q }

-- "Interact: 8, then by list close, contains_pointer, click, drag: 4, 1, 9 by entry; last 10"
abbrev pub interact_refusal_number : InteractRefusal → ℕ
interact_refusal_number (interaction.Malformed index) = 1
interact_refusal_number (interaction.TooManyHits index) = 4
interact_refusal_number interaction.ShortBuffer = 8
interact_refusal_number interaction.ZeroId = 9
interact_refusal_number interaction.TallyFull = 10

-- "in interact an index is the entry's place in its list from 0"
abbrev pub interact_refusal_index : InteractRefusal → Option ℕ
interact_refusal_index (interaction.Malformed index) = Some index
interact_refusal_index (interaction.TooManyHits index) = Some index
interact_refusal_index interaction.ShortBuffer = None
interact_refusal_index interaction.ZeroId = None
interact_refusal_index interaction.TallyFull = None

abbrev pub interact_row : InteractRefusal → Row
interact_row q = record { number = interact_refusal_number q; index = interact_refusal_index q }
