-- Demand 3, second half: a clearing pass ends the trace of a lost event. What is supposed and what is claimed. Definitions only.
use Rattle.std.specs.Prelude.{ℕ, ◌≡◌, Bool, true, false, not, ◌&&◌, ◌||◌, List, [], ◌∷◌, ◌++◌, map, T, eqb, Float, Option, None, Some}
use Rattle.std.specs.Float.{binary64}
use Rattle.std.specs.Float.Ieee.{add, sub, le}
use Rattle.model.specs.Types.{Pos2, Vec2, Rect, Modifiers, InputOptions, Primary, Secondary, Middle, Extra1, Extra2, MouseWheelUnit, MouseWheelSource, End, ActiveTouch}
use Rattle.model.specs.Types.{Event, Key, ModifiersChanged, PointerMoved, MouseMoved, Button, PointerGone, Zoom, Rotate, Touch, MouseWheel, WindowFocused, Other}
use Rattle.model.specs.Types.{PassRefusal, Malformed, OutsideDomain, TimeBelow, TooManyEvents, NoPlace, InteractRefusal}
use Rattle.emath.specs.Vec.{vec_zero, vec_ne}
use Rattle.model.specs.Pointer.{any, is_click, is_move}
use Rattle.model.specs.Touch.{TouchState}
use Rattle.model.specs.Pass.{Panel, PassInput, fresh, pass_events, or_else}
use Rattle.model.specs.Interact.{InteractInput, InteractionSnapshot}
use Rattle.model.specs.Questions.{Question, settled, time_since_last_click, time_since_last_movement, has_touch_screen, tally, ask}
use Rattle.model.specs.Calls.{Call, passes, interacts, Outcome, refused_pass, refused_interact, passed, answered, call, after, run}
use Rattle.theorems.specs.Reach.{Reached}

-- ---- the clearing pass

-- an End of touch `id` of a device, at any position and of any force
pub record TouchEnd : Type 0 where
  pub device_id : ℕ
  pub id : ℕ
  pub pos : Pos2
  pub force : Option Float

abbrev pub end_event : TouchEnd → Event
end_event e = Touch e.device_id e.id End e.pos e.force

-- is touch i of device d among those that end
unfoldable pub is_ended : ℕ → ℕ → List TouchEnd → Bool
is_ended d i [] = false
is_ended d i (e ∷ es) = (eqb d e.device_id && eqb i e.id) || is_ended d i es

abbrev pub EndsTouches : List TouchEnd → ℕ → List ActiveTouch → Type 0
EndsTouches es d [] = Unit {0}
EndsTouches es d (t ∷ ts) = T (is_ended d t.id es) × EndsTouches es d ts

-- every touch that these devices hold ends
abbrev pub EndsAll : List TouchEnd → List TouchState → Type 0
EndsAll es [] = Unit {0}
EndsAll es (v ∷ vs) = EndsTouches es v.device_id v.active_touches × EndsAll es vs

-- what 01 leaves free in the other events: the releases' position and modifiers, the motion, and all of the wheel event but its phase
pub record Rest : Type 0 where
  pub pos : Pos2
  pub primary_modifiers : Modifiers
  pub secondary_modifiers : Modifiers
  pub middle_modifiers : Modifiers
  pub extra1_modifiers : Modifiers
  pub extra2_modifiers : Modifiers
  pub motion : Vec2
  pub wheel_unit : MouseWheelUnit
  pub wheel_delta : Vec2
  pub wheel_source : MouseWheelSource
  pub wheel_modifiers : Modifiers

-- 01: "release of buttons 0 to 4 at one position; one relative motion; wheel End; focus lost; pointer gone"
abbrev pub rest_events : Rest → List Event
rest_events r =
    Button r.pos Primary false r.primary_modifiers
    ∷ Button r.pos Secondary false r.secondary_modifiers
    ∷ Button r.pos Middle false r.middle_modifiers
    ∷ Button r.pos Extra1 false r.extra1_modifiers
    ∷ Button r.pos Extra2 false r.extra2_modifiers
    ∷ MouseMoved r.motion
    ∷ MouseWheel r.wheel_unit r.wheel_delta End r.wheel_source r.wheel_modifiers
    ∷ WindowFocused false
    ∷ PointerGone
    ∷ []

-- c is a clearing pass for panels p and q; its other numbers and its options are any
pub record Clears (c : PassInput) (p q : Panel) : Type 0 where
  -- 01: "It gives a time and a screen rectangle."
  pub time : Float
  pub gives_time : c.time ≡ Some time
  pub screen_rect : Rect
  pub gives_rect : c.screen_rect ≡ Some screen_rect
  -- 01: "Its feed is: End for each touch held by either panel;" then the rest, in this order
  pub ends : List TouchEnd
  pub rest : Rest
  pub feed : pass_events c ≡ map end_event ends ++ rest_events rest
  pub ends_p : EndsAll ends p.touch_states
  pub ends_q : EndsAll ends q.touch_states

-- a panel takes the clearing pass and then the interact, and is then p
pub record TakesFrom (before : Panel) (c : PassInput) (x : InteractInput) (p : Panel) : Type 0 where
  pub cleared : Panel
  pub takes_pass : call before (passes c) ≡ passed cleared
  pub snapshot : InteractionSnapshot
  pub takes_interact : call cleared (interacts x) ≡ answered snapshot p

-- "two panels, each with any such list as its past, take the same clearing pass and then the same interact": one of them
abbrev pub Takes : List Call → PassInput → InteractInput → Panel → Type 0
Takes past c x p = TakesFrom (run fresh past) c x p

-- ---- the later list

-- of a button event, whether it is a press
unfoldable pub button_event : Event → Option Bool
button_event (Key k b) = None
button_event (ModifiersChanged m) = None
button_event (PointerMoved v) = None
button_event (MouseMoved v) = None
button_event (Button v b pressed m) = Some pressed
button_event PointerGone = None
button_event (Zoom x) = None
button_event (Rotate x) = None
button_event (Touch d i ph v f) = None
button_event (MouseWheel u v ph s m) = None
button_event (WindowFocused b) = None
button_event Other = None

-- the first button event of a pass
unfoldable pub first_button : List Event → Option Bool
first_button [] = None
first_button (e ∷ es) = or_else (button_event e) (first_button es)

-- "If the first later button event, where there is one, is a press no sooner than ..": of a taken pass at `time`, where none came before it.
-- 01: "the f64 difference of that press's pass time and the clearing pass's is at least" the gap
abbrev pub FirstIsPress : Float → Float → Float → Option Bool → Type 0
FirstIsPress gap cleared time None = Unit {0}
FirstIsPress gap cleared time (Some false) = ⊥
FirstIsPress gap cleared time (Some true) = T (le gap (sub binary64 time cleared))

abbrev pub Unless : Bool → Type 0 → Type 0
Unless true A = Unit {0}
Unless false A = A

-- has a button event come: before, or in this pass
abbrev pub button_came : Bool → Option Bool → Bool
button_came before None = before
button_came before (Some pressed) = true

abbrev pub is_refused : Outcome → Bool
is_refused (refused_pass r) = true
is_refused (refused_interact r) = true
is_refused (passed p) = false
is_refused (answered s p) = false

-- "get any one list of passes and interacts, the same for both, each call taken by both or refused by both": panels p and q get the list.
-- `Allowed` says which options taken passes may bring, `b` whether a taken pass since the clearing one had a button event. Refused calls may be any.
pub data Fair (Allowed : InputOptions → Type 0) (gap cleared : Float) : Bool → Panel → Panel → List Call → Type 0 where
  done : {b : Bool} {p q : Panel} → Fair Allowed gap cleared b p q []
  both_refused : {b : Bool} {p q : Panel} {c : Call} {cs : List Call}
      → T (is_refused (call p c)) → T (is_refused (call q c))
      → Fair Allowed gap cleared b p q cs → Fair Allowed gap cleared b p q (c ∷ cs)
  both_passed : {b : Bool} {p q : Panel} {i : PassInput} {cs : List Call} (p' q' : Panel)
      → call p (passes i) ≡ passed p' → call q (passes i) ≡ passed q'
      → Allowed i.options
      → Unless b (FirstIsPress gap cleared p'.clock.time (first_button (pass_events i)))
      → Fair Allowed gap cleared (button_came b (first_button (pass_events i))) p' q' cs → Fair Allowed gap cleared b p q (passes i ∷ cs)
  both_answered : {b : Bool} {p q : Panel} {x : InteractInput} {cs : List Call} (s t : InteractionSnapshot) (p' q' : Panel)
      → call p (interacts x) ≡ answered s p' → call q (interacts x) ≡ answered t q'
      → Fair Allowed gap cleared b p' q' cs → Fair Allowed gap cleared b p q (interacts x ∷ cs)

-- ---- the claim

-- is a refusal number 5
unfoldable pub is_no_place : PassRefusal → Bool
is_no_place (Malformed w) = false
is_no_place (OutsideDomain w) = false
is_no_place TimeBelow = false
is_no_place (TooManyEvents w) = false
is_no_place (NoPlace w) = true

-- "all their later answers are equal": those of one call
pub data SameAnswer : Outcome → Outcome → Type 0 where
  -- 01: "the refusals then agree unless one is 5"
  same_pass_refusal : (r s : PassRefusal) → (T (not (is_no_place r)) → T (not (is_no_place s)) → r ≡ s) → SameAnswer (refused_pass r) (refused_pass s)
  same_interact_refusal : (r : InteractRefusal) → SameAnswer (refused_interact r) (refused_interact r)
  both_taken : (p q : Panel) → SameAnswer (passed p) (passed q)
  -- the snapshot, with the ids written
  same_snapshot : (s : InteractionSnapshot) (p q : Panel) → SameAnswer (answered s p) (answered s q)

-- what has come since the clearing pass: a click, a movement
pub record Since : Type 0 where
  pub clicked : Bool
  pub moved : Bool

abbrev pub nothing_since : Since
nothing_since = record { clicked = false; moved = false }

-- "save .. the tally, the known devices and, up to the first later click, the seconds since the last one": which questions may be answered differently.
-- 01: the devices known, "and with them has_touch_screen"
-- 02 A.4: "After a clearing pass two panels need agree on this answer only from their first later movement."
unfoldable pub may_differ : Since → Question → Bool
may_differ since (settled q) = false
may_differ since time_since_last_click = not since.clicked
may_differ since time_since_last_movement = not since.moved
may_differ since has_touch_screen = true
may_differ since tally = true

-- 01: "Compared are the answers of each pass and interact, the ids written, and what `InputState`'s questions, `TouchState::info` and every other question
-- of a panel's state, asked alike after any call, answer"
pub record Same (since : Since) (p q : Panel) (a b : Outcome) : Type 0 where
  pub answers : SameAnswer a b
  pub replies : (question : Question) → T (not (may_differ since question)) → ask question (after p a) ≡ ask question (after q b)

abbrev pub is_passed : Outcome → Bool
is_passed (refused_pass r) = false
is_passed (refused_interact r) = false
is_passed (passed p) = true
is_passed (answered s p) = false

-- 01: "A click is a release that carries one": of a taken pass
abbrev pub has_click : Outcome → Bool
has_click (refused_pass r) = false
has_click (refused_interact r) = false
has_click (passed p) = any is_click p.press.held.pointer_events
has_click (answered s p) = false

-- a movement is what sets last_move_time in a taken pass: a move, or a velocity other than zero
abbrev pub has_movement : Outcome → Bool
has_movement (refused_pass r) = false
has_movement (refused_interact r) = false
has_movement (passed p) = any is_move p.press.held.pointer_events || vec_ne p.place.velocity vec_zero
has_movement (answered s p) = false

-- and what has come after one call more
abbrev pub then_since : Outcome → Since → Since
then_since o since = record { clicked = has_click o || since.clicked; moved = has_movement o || since.moved }

abbrev pub When : Bool → Type 0 → Type 0
When true A = A
When false A = Unit {0}

-- "from the next taken pass on": `came` says whether it has come
abbrev pub Alike : Bool → Since → Panel → Panel → List Call → Type 0
Alike came since p q [] = Unit {0}
Alike came since p q (c ∷ cs) =
    When (is_passed (call p c) || came) (Same (then_since (call p c) since) p q (call p c) (call q c))
    × Alike (is_passed (call p c) || came) (then_since (call p c) since) (after p (call p c)) (after q (call q c)) cs

-- ---- the whole

-- "twice the double-click delay", in f64
abbrev pub twice : Float → Float
twice delay = add binary64 delay delay

-- of two panels, wherever they come from
abbrev pub ClearingFrom : Panel → Panel → Type 0
ClearingFrom before₁ before₂ =
    (later : List Call) (c : PassInput) (x : InteractInput) (p q : Panel) (clears : Clears c before₁ before₂)
    → TakesFrom before₁ c x p → TakesFrom before₂ c x q
    → Fair (λ o. o ≡ c.options) (twice c.options.max_double_click_delay) clears.time false p q later
    → Alike false nothing_since p q later

-- the core: of any two panels that have what every panel reached has
abbrev pub ClearingReached : Type 0
ClearingReached = (before₁ before₂ : Panel) → Reached before₁ → Reached before₂ → ClearingFrom before₁ before₂

-- Demand 3: "let two panels, each with any such list as its past, take the same clearing pass and then the same interact, and then get any one list
-- of passes and interacts, the same for both, each call taken by both or refused by both, under options fixed from the clearing pass on. If the first
-- later button event, where there is one, is a press no sooner than twice the double-click delay, then from the next taken pass on all their later
-- answers are equal"
abbrev pub Clearing : Type 0
Clearing = (past₁ past₂ : List Call) → ClearingFrom (run fresh past₁) (run fresh past₂)
