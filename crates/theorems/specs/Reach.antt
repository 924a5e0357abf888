-- What holds of every panel that a list of calls reaches from the fresh one. Definitions only.
use Rattle.std.specs.Prelude.{◌≡◌, Bool, not, List, T, Float, Option, None, Some}
use Rattle.std.specs.Float.Ieee.{lt, le}
use Rattle.std.specs.Float.Ieee.Scale.{finite}
use Rattle.data.specs.Limits.{time_ok, unit_interval_ok}
use Rattle.model.specs.Numbers.{+0, neg_infinity}
use Rattle.model.specs.Types.{ButtonsDown, PointerButton}
use Rattle.model.specs.Pointer.{no_buttons, set_down, buttons, any_flag, CountTrue}
use Rattle.model.specs.Pointer as Pointer
use Rattle.model.specs.Touch.{InOrder}
use Rattle.model.specs.Pass.{Panel, Clock, PassInput, fresh, time_of}
use Rattle.model.specs.Questions.{Reply, bool, maybe_number, settled, any_down, time_since_last_movement, ask}
use Rattle.model.specs.Calls.{Call, run}

-- a click's time: never, or not later than now
pub data NotAfter (now t : Float) : Type 0 where
  never : t ≡ neg_infinity → NotAfter now t
  by : T (finite t) → T (le t now) → NotAfter now t

-- the last movement's time: none, or in the domain and not later than now, which is then the pointer's time too
pub data LastMove (c : Clock) : Option Float → Type 0 where
  no_move : LastMove c None
  move_by : (t : Float) → T (time_ok t) → T (le t c.time) → c.pointer_time ≡ c.time → LastMove c (Some t)

-- 02 A.7: "Press of a button already down and release of one already up must leave it true"; and where it is true, `any_down` is egui's scan of the flags
pub record CountLaws : Type 0 where
  pub none_down : CountTrue no_buttons
  pub kept : (b : PointerButton) (v : Bool) (d : ButtonsDown) → CountTrue d → CountTrue (set_down b v d)
  pub scans : (d : ButtonsDown) → CountTrue d → Pointer.any_down d ≡ any_flag d
  -- what reading an image makes
  pub made : (primary secondary middle extra1 extra2 : Bool) → CountTrue (buttons primary secondary middle extra1 extra2)

pub record Reached (p : Panel) : Type 0 where
  -- InputState's time is finite and in 01's domain: "Time 0 to 4,294,967,296 s"
  pub time_finite : T (finite p.clock.time)
  pub time_in_domain : T (time_ok p.clock.time)
  -- the last click is not later than now, or is minus infinity
  pub last_click : NotAfter p.clock.time p.press.past.last_click_time
  -- and so the last movement
  pub last_move : LastMove p.clock p.last_move_time
  -- the number of buttons down is that of the flags
  pub count_true : CountTrue p.press.held.down
  -- touches and devices go by ascending id and are within 01's limits
  pub devices : InOrder p.touch_states

-- for every list of passes and interacts from a fresh panel, refused ones included
abbrev pub Reach : Type 0
Reach = (calls : List Call) → Reached (run fresh calls)

-- 02 A.7: so `any_down`, which reads the number, answers as egui's scan of the flags does
abbrev pub AnyDownIsEguis : Type 0
AnyDownIsEguis = (calls : List Call) → ask (settled any_down) (run fresh calls) ≡ bool (any_flag (run fresh calls).press.held.down)

-- and calls, refused ones included, leave a number that is true so, from whatever panel they go on
abbrev pub RunsKeepCount : Type 0
RunsKeepCount = (p : Panel) → CountTrue p.press.held.down → (calls : List Call) → CountTrue (run p calls).press.held.down

-- an answer in seconds: none, or at least 0 and so a number
pub data FromZero : Reply → Type 0 where
  no_seconds : FromZero (maybe_number None)
  seconds : (x : Float) → T (le +0 x) → FromZero (maybe_number (Some x))

-- 02 A.4: "the seconds since the last movement, or 'none' before any"
abbrev pub RestedFromZero : Type 0
RestedFromZero = (calls : List Call) → FromZero (ask time_since_last_movement (run fresh calls))

-- its time never falls
abbrev pub TimeNeverFalls : Type 0
TimeNeverFalls = (calls later : List Call) → T (le (run fresh calls).clock.time (run (run fresh calls) later).clock.time)

-- 01, row 3: "given time below the state's". An absent time, the old one plus predicted dt, is never below it
abbrev pub AbsentTimeNeverBelow : Type 0
AbsentTimeNeverBelow =
    (calls : List Call) (i : PassInput) → i.time ≡ None → T (unit_interval_ok i.predicted_dt) → T (not (lt (time_of i (run fresh calls).clock.time) (run fresh calls).clock.time))
