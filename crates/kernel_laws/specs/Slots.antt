-- The events of calls by their slots, the touches that begin and end, and the fingers held.
use Rattle.std.specs.Prelude.{ℕ, zero, suc, ◌+◌, Bool, false, cond, List, [], ◌∷◌, ◌++◌, map, T, eqb}
use Rattle.data.specs.Bits.{bit_number}
use Rattle.data.specs.Numbers.{phase_number}
use Rattle.feed.specs.Types.{TouchPhase, Start, End, Event, Key, ModifiersChanged, PointerMoved, MouseMoved, Button, PointerGone, Zoom, Rotate, Touch, MouseWheel, WindowFocused, Other}
use Rattle.kernel_values.specs.Value.{position_ok, is_finger}
use Rattle.kernel_record.specs.declared.KernelRecord.{KernelRecord}
use Rattle.kernel_touch.specs.declared.slots.Finger.{Finger}
use Rattle.kernel_touch.specs.declared.slots.Slot.{Slot}
use Rattle.kernel_touch.specs.declared.slots.KernelTouches.{KernelTouches}
use Rattle.kernel_touch.specs.Step.{after}
use Rattle.kernel_report.specs.Report.{slot_events}
use Rattle.kernel_read.specs.Read.{acts, all_records, is_taken, kernel_of}
use Rattle.kernel_laws.specs.Calls.{Call, outcome}

-- ---- positions of the domain: those of the fingers now, which are what events carry. `acted` is compared alone
abbrev pub InRange : List Slot → Type 0
InRange [] = Unit {0}
InRange (s ∷ ss) = (T (position_ok s.now.x) × T (position_ok s.now.y)) × InRange ss

-- ---- events with the numbers of their slots
pub record SlotEvent : Type 0 where
  pub slot : ℕ
  pub event : Event

unfoldable pub numbered : ℕ → List Event → List SlotEvent
numbered n [] = []
numbered n (e ∷ es) = record { slot = n; event = e } ∷ numbered n es

-- `report`, its first slot number n
unfoldable pub slots_report : ℕ → ℕ → List Slot → List SlotEvent
slots_report device n [] = []
slots_report device n (s ∷ ss) = numbered n (slot_events device s) ++ slots_report device (suc n) ss

-- of records one after the other
unfoldable pub slots_run : ℕ → List KernelRecord → KernelTouches → List SlotEvent
slots_run device [] k = []
slots_run device (r ∷ rs) k = cond (acts r k) (slots_report device 0 k.slots) [] ++ slots_run device rs (after r k)

-- of a call: a refused one gives none
unfoldable pub slots_call : KernelTouches → Call → List SlotEvent
slots_call k c = cond (is_taken (outcome k c)) (slots_run c.device (all_records c.bytes) k) []

unfoldable pub slots_calls : KernelTouches → List Call → List SlotEvent
slots_calls k [] = []
slots_calls k (c ∷ cs) = slots_call k c ++ slots_calls (kernel_of k (outcome k c)) cs

-- the events of one slot
unfoldable pub of_slot : ℕ → List SlotEvent → List Event
of_slot i [] = []
of_slot i (e ∷ es) = cond (eqb e.slot i) (e.event ∷ of_slot i es) (of_slot i es)

-- ---- Starts and Ends
unfoldable pub in_phase : TouchPhase → Event → Bool
in_phase ph (Touch device id phase pos force) = eqb (phase_number phase) (phase_number ph)
in_phase ph (Key place pressed) = false
in_phase ph (ModifiersChanged m) = false
in_phase ph (PointerMoved pos) = false
in_phase ph (MouseMoved delta) = false
in_phase ph (Button pos b pressed m) = false
in_phase ph PointerGone = false
in_phase ph (Zoom factor) = false
in_phase ph (Rotate radians) = false
in_phase ph (MouseWheel unit delta phase source m) = false
in_phase ph (WindowFocused focused) = false
in_phase ph Other = false

unfoldable pub count : TouchPhase → List Event → ℕ
count ph [] = 0
count ph (e ∷ es) = bit_number (in_phase ph e) + count ph es

abbrev pub starts : List Event → ℕ
starts es = count Start es

abbrev pub ends : List Event → ℕ
ends es = count End es

-- ---- fingers held at the last report end acted on
unfoldable pub reported : KernelTouches → List Finger
reported k = map (λ (s : Slot). s.acted) k.slots

-- in one slot: 1, or 0 for none
unfoldable pub held_in : ℕ → List Finger → ℕ
held_in i [] = 0
held_in zero (f ∷ fs) = bit_number (is_finger f.id)
held_in (suc i) (f ∷ fs) = held_in i fs

-- in all slots
unfoldable pub held : List Finger → ℕ
held [] = 0
held (f ∷ fs) = bit_number (is_finger f.id) + held fs
