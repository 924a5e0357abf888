-- The events of a report end: A.1's "At a report end the changed slots, whose id or position differs from that at the last report end acted on, give their
-- events in slot order".
use Rattle.std.specs.Prelude.{ℕ, Bool, ◌&&◌, cond, List, [], ◌∷◌, ◌++◌, ℤ, nat_abs, None}
use Rattle.std.specs.Float.{binary32}
use Rattle.std.specs.Float.Ieee.{of_int}
use Rattle.feed.specs.Types.{Pos2, TouchPhase, Start, Move, End, Event, Touch}
use Rattle.kernel_values.specs.Value.{same_number, is_finger}
use Rattle.kernel_touch.specs.declared.slots.Finger.{Finger}
use Rattle.kernel_touch.specs.declared.slots.Slot.{Slot}
use Rattle.kernel_report.specs.declared.change.Change.{Change}
use Rattle.kernel_report.specs.declared.change.Change.TheVariants.{Still, Begun, Moved, Lifted, Replaced}

-- ---- how a slot changed: only the finger now and the one at the last report end acted on are compared,
-- so that "one begun and lifted within a report gives none"
unfoldable pub same_place : Finger → Finger → Bool
same_place a b = same_number a.x b.x && same_number a.y b.y

-- the same id
unfoldable pub moved : Finger → Finger → Change
moved then now = cond (same_place then now) Still (cond (is_finger now.id) Moved Still)

-- another id: a lifted finger's is -1
unfoldable pub replaced : ℤ → ℤ → Change
replaced then now = cond (is_finger then) (cond (is_finger now) Replaced Lifted) (cond (is_finger now) Begun Still)

unfoldable pub change : Slot → Change
change s = cond (same_number s.acted.id s.now.id) (moved s.acted s.now) (replaced s.acted.id s.now.id)

-- ---- its events
unfoldable pub position : Finger → Pos2
position f = record { x = of_int binary32 f.x; y = of_int binary32 f.y }

-- "the touch id is the tracking id, all carry the slot's last position, no force"
unfoldable pub touch : ℕ → TouchPhase → ℤ → Finger → Event
touch device phase id f = Touch device (nat_abs id) phase (position f) None

-- its words: the feed's table says six after the first
abbrev pub touch_words : ℕ
touch_words = 7

-- "in one slot End before Start"
unfoldable pub change_events : ℕ → Change → Slot → List Event
change_events device Still s = []
change_events device Begun s = touch device Start s.now.id s.now ∷ []
change_events device Moved s = touch device Move s.now.id s.now ∷ []
change_events device Lifted s = touch device End s.acted.id s.now ∷ []
change_events device Replaced s = touch device End s.acted.id s.now ∷ touch device Start s.now.id s.now ∷ []

unfoldable pub slot_events : ℕ → Slot → List Event
slot_events device s = change_events device (change s) s

-- "in slot order"
unfoldable pub report : ℕ → List Slot → List Event
report device [] = []
report device (s ∷ ss) = slot_events device s ++ report device ss
