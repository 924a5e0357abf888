-- When an answer is the model's: its reply to the question, of every panel that shows these values, whatever else it shows.
use Rattle.std.specs.Prelude.{ℕ, ◌≡◌, List, Float, length, Option, Some}
use Rattle.data.specs.Numbers.{rotation_number, rotation_values, source_number}
use Rattle.data.specs.Numbers.{pointer_event_number, pointer_event_position, pointer_event_button, pointer_event_click}
use Rattle.model.specs.Types.{WheelState, PointerEvent, Rotation, MouseWheelSource}
use Rattle.model.specs.Pass as Model
use Rattle.model.specs.Questions.{Question, settled, pointer_events, events, rotation_delta, rotation, scroll_source, source, Reply, ask}
use Rattle.data.specs.declared.pointer.PointerEvent.{PointerEvent}
use Rattle.pointer_place.specs.declared.Place.{Place}
use Rattle.pointer_state.specs.declared.press.Press.{Press}
use Rattle.pointer_events.specs.Events.{event_or_none}
use Rattle.pointer_place.specs.View.{place}
use Rattle.pointer_state.specs.View.{press}
use Rattle.touch_state.specs.declared.devices.Devices.{Devices}
use Rattle.touch_state.specs.View.{view}
use Rattle.key_state.specs.declared.keys.Keys.{Keys}
use Rattle.key_state.specs.View.{keys}
use Rattle.interaction_state.specs.declared.state.Interaction.{Interaction}
use Rattle.interaction_state.specs.View.{interaction_of}
use Rattle.input_state.specs.declared.clock.Clock.{Clock}
use Rattle.input_state.specs.declared.screen.Screen.{Screen}
use Rattle.input_state.specs.declared.pointer.Pointer.{Pointer}
use Rattle.input_state.specs.declared.sums.Sums.{Sums}
use Rattle.input_state.specs.View.{Lent, clock, screen, sums}
use Rattle.panel.specs.declared.state.Panel.{Panel}
use Rattle.panel.specs.View.{shown_by}

-- ---- a question that reads one record
abbrev pub OfClock : Question → Clock → Reply → Type 0
OfClock q c a = (p : Model.Panel) → p.clock ≡ clock c → ask q p ≡ a

abbrev pub OfScreen : Question → Screen → Reply → Type 0
OfScreen q s a = (p : Model.Panel) → p.screen ≡ screen s → ask q p ≡ a

abbrev pub OfSums : Question → Sums → Reply → Type 0
OfSums q s a = (p : Model.Panel) → p.sums ≡ sums s → ask q p ≡ a

abbrev pub OfWheel : Question → WheelState → Reply → Type 0
OfWheel q w a = (p : Model.Panel) → p.wheel ≡ w → ask q p ≡ a

abbrev pub OfDevices : Question → Devices → Reply → Type 0
OfDevices q ds a = (p : Model.Panel) → p.touch_states ≡ view ds → ask q p ≡ a

abbrev pub OfInteraction : Question → Interaction → Reply → Type 0
OfInteraction q n a = (p : Model.Panel) → p.interaction ≡ interaction_of n → ask q p ≡ a

-- the keys without the lent presses, and the presses alone
abbrev pub OfKeys : Question → Keys → Reply → Type 0
OfKeys q k a = (presses : List ℕ) (p : Model.Panel) → p.keys ≡ keys presses k → ask q p ≡ a

abbrev pub OfPresses : Question → List ℕ → Reply → Type 0
OfPresses q presses a = (k : Keys) (p : Model.Panel) → p.keys ≡ keys presses k → ask q p ≡ a

-- where the pointer is; the history's lent places don't matter
abbrev pub OfPlace : Question → Place → Reply → Type 0
OfPlace q x a = (times positions : List Float) (p : Model.Panel) → p.place ≡ place times positions x → ask q p ≡ a

-- the presses of buttons: with the lent codes of the pass's pointer events, and without them
abbrev pub OfEvents : Question → Press → List ℕ → Reply → Type 0
OfEvents q s codes a = (places : List Float) (p : Model.Panel) → p.press ≡ press codes places s → ask q p ≡ a

abbrev pub OfPress : Question → Press → Reply → Type 0
OfPress q s a = (codes : List ℕ) → OfEvents q s codes a

-- ---- the pass's pointer events, for the list `l` of them that the model replies: how many, and the one at i
abbrev pub OfEventCount : Press → ℕ → Type 0
OfEventCount s n =
    (codes : List ℕ) (places : List Float) (p : Model.Panel) → p.press ≡ press codes places s
    → (l : List PointerEvent) → ask (settled pointer_events) p ≡ events l → n ≡ length l

abbrev pub OfEventAt : Press → List ℕ → List Float → ℕ → Option PointerEvent → Type 0
OfEventAt s codes places i a =
    (p : Model.Panel) → p.press ≡ press codes places s → (l : List PointerEvent) → ask (settled pointer_events) p ≡ events l → a ≡ event_or_none l i

-- ---- a question that reads several
abbrev pub OfWheelAt : Question → WheelState → Clock → Reply → Type 0
OfWheelAt q w c a = (p : Model.Panel) → p.wheel ≡ w → p.clock ≡ clock c → ask q p ≡ a

abbrev pub OfClickPast : Question → Press → Clock → Reply → Type 0
OfClickPast q s c a = (codes : List ℕ) (places : List Float) (p : Model.Panel) → p.press ≡ press codes places s → p.clock ≡ clock c → ask q p ≡ a

abbrev pub OfLastMove : Question → Pointer → Clock → Reply → Type 0
OfLastMove q x c a = (p : Model.Panel) → p.last_move_time ≡ x.last_move_time → p.clock ≡ clock c → ask q p ≡ a

abbrev pub OfGesture : Question → Devices → Sums → Reply → Type 0
OfGesture q ds s a = (p : Model.Panel) → p.touch_states ≡ view ds → p.sums ≡ sums s → ask q p ≡ a

abbrev pub OfGestureByAxis : Question → Devices → Sums → Keys → Screen → Reply → Type 0
OfGestureByAxis q ds s k y a =
    (presses : List ℕ) (p : Model.Panel) → p.touch_states ≡ view ds → p.sums ≡ sums s → p.keys ≡ keys presses k → p.screen ≡ screen y → ask q p ≡ a

abbrev pub OfPlaceAndPress : Question → Pointer → Reply → Type 0
OfPlaceAndPress q x a =
    (times positions : List Float) (codes : List ℕ) (places : List Float) (p : Model.Panel)
    → p.place ≡ place times positions x.place → p.press ≡ press codes places x.press → ask q p ≡ a

abbrev pub OfPressing : Question → Clock → Screen → Press → List ℕ → Reply → Type 0
OfPressing q c y s codes a =
    (places : List Float) (p : Model.Panel) → p.clock ≡ clock c → p.screen ≡ screen y → p.press ≡ press codes places s → ask q p ≡ a

abbrev pub OfLongPress : Question → Clock → Screen → Pointer → Reply → Type 0
OfLongPress q c y x a =
    (codes : List ℕ) (places : List Float) (p : Model.Panel)
    → p.clock ≡ clock c → p.screen ≡ screen y → p.press ≡ press codes places x.press → p.started_decidedly_dragging ≡ x.started_decidedly_dragging → ask q p ≡ a

abbrev pub OfLongTouch : Question → Clock → Screen → Pointer → Devices → Reply → Type 0
OfLongTouch q c y x ds a =
    (codes : List ℕ) (places : List Float) (p : Model.Panel)
    → p.clock ≡ clock c → p.screen ≡ screen y → p.press ≡ press codes places x.press → p.started_decidedly_dragging ≡ x.started_decidedly_dragging
    → p.touch_states ≡ view ds → ask q p ≡ a

abbrev pub OfWaiting : Question → Clock → Screen → Pointer → List ℕ → WheelState → Keys → Devices → Reply → Type 0
OfWaiting q c y x codes w k ds a =
    (times positions places : List Float) (presses : List ℕ) (p : Model.Panel)
    → p.clock ≡ clock c → p.screen ≡ screen y → p.place ≡ place times positions x.place → p.press ≡ press codes places x.press
    → p.wheel ≡ w → p.keys ≡ keys presses k → p.touch_states ≡ view ds → ask q p ≡ a

abbrev pub OfTally : Question → Panel → Reply → Type 0
OfTally q x a = (l : Lent) → ask q (shown_by l x) ≡ a

-- ---- 01: "If an answer is an enum, a definition states this paper's number and values for each of the enum's cases. The promises use that definition."
-- Of the answer as of what the model replies, for every panel that shows these values.

-- the number of a rotation, and its sum or its two headings
pub record SameRotation (r x : Rotation) : Type 0 where
  pub number : rotation_number r ≡ rotation_number x
  pub values : rotation_values r ≡ rotation_values x

abbrev pub NumberedRotation : Devices → Sums → Rotation → Type 0
NumberedRotation ds s r =
    (p : Model.Panel) → p.touch_states ≡ view ds → p.sums ≡ sums s → (x : Rotation) → ask (settled rotation_delta) p ≡ rotation x → SameRotation r x

-- the number of what drives the scrolling, where something does
abbrev pub NumberedSource : WheelState → Option MouseWheelSource → Type 0
NumberedSource w a =
    (p : Model.Panel) → p.wheel ≡ w → (x : MouseWheelSource) → ask (settled scroll_source) p ≡ source (Some x)
    → (s : MouseWheelSource) → a ≡ Some s → source_number s ≡ source_number x

-- the number of a pointer event; its position, the number of its button, and its click, or none where its case has none
pub record SameEvent (e x : PointerEvent) : Type 0 where
  pub number : pointer_event_number e ≡ pointer_event_number x
  pub position : pointer_event_position e ≡ pointer_event_position x
  pub button : pointer_event_button e ≡ pointer_event_button x
  pub click : pointer_event_click e ≡ pointer_event_click x

abbrev pub NumberedEventAt : Press → List ℕ → List Float → ℕ → Option PointerEvent → Type 0
NumberedEventAt s codes places i a =
    (p : Model.Panel) → p.press ≡ press codes places s → (l : List PointerEvent) → ask (settled pointer_events) p ≡ events l
    → (x : PointerEvent) → event_or_none l i ≡ Some x → (e : PointerEvent) → a ≡ Some e → SameEvent e x
