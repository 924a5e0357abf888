-- What goes on from call to call, and how a record changes it. An array is its list.
use Rattle.std.specs.Prelude.{ℕ, zero, suc, Bool, false, List, [], ◌∷◌, map, ℤ, pos, negsuc, nat_abs}
use Rattle.kernel_values.specs.Value.{max_slots}
use Rattle.kernel_touch.specs.declared.slots.Finger.{Finger}
use Rattle.kernel_touch.specs.declared.slots.Slot.{Slot}
use Rattle.kernel_touch.specs.declared.slots.KernelTouches.{KernelTouches}

-- "slots start empty", "the slot's last position (0 at first)"
unfoldable pub no_finger : Finger
no_finger = record { id = negsuc 0; x = pos 0; y = pos 0 }

unfoldable pub empty_slots : ℕ → List Slot
empty_slots zero = []
empty_slots (suc n) = record { now = no_finger; acted = no_finger } ∷ empty_slots n

-- "the chosen slot is 0 at first"
unfoldable pub fresh : KernelTouches
fresh = record { slots = empty_slots max_slots; chosen = 0; skipping = false }

-- the finger of a slot, by its number; none where there is no such slot
unfoldable pub finger_at : ℕ → List Slot → Finger
finger_at n [] = no_finger
finger_at zero (s ∷ ss) = s.now
finger_at (suc n) (s ∷ ss) = finger_at n ss

unfoldable pub put_at : ℕ → Finger → List Slot → List Slot
put_at n f [] = []
put_at zero f (s ∷ ss) = record { now = f; acted = s.acted } ∷ ss
put_at (suc n) f (s ∷ ss) = s ∷ put_at n f ss

unfoldable pub chosen_finger : KernelTouches → Finger
chosen_finger k = finger_at k.chosen k.slots

unfoldable pub put_finger : Finger → KernelTouches → KernelTouches
put_finger f k = record { slots = put_at k.chosen f k.slots; chosen = k.chosen; skipping = k.skipping }

-- "35 and 36 position", of the chosen slot
unfoldable pub with_x : ℤ → KernelTouches → KernelTouches
with_x x k = let f = chosen_finger k in put_finger (record { id = f.id; x = x; y = f.y }) k

unfoldable pub with_y : ℤ → KernelTouches → KernelTouches
with_y y k = let f = chosen_finger k in put_finger (record { id = f.id; x = f.x; y = y }) k

-- "39 tracking id, where -1 lifts the finger"
unfoldable pub with_id : ℤ → KernelTouches → KernelTouches
with_id id k = let f = chosen_finger k in put_finger (record { id = id; x = f.x; y = f.y }) k

-- "2f slot"
unfoldable pub choose : ℤ → KernelTouches → KernelTouches
choose v k = record { slots = k.slots; chosen = nat_abs v; skipping = k.skipping }

unfoldable pub skips : Bool → KernelTouches → KernelTouches
skips b k = record { slots = k.slots; chosen = k.chosen; skipping = b }

-- a report end is acted on: "the last report end acted on" is now
unfoldable pub settle : Slot → Slot
settle s = record { now = s.now; acted = s.now }

unfoldable pub settled : KernelTouches → KernelTouches
settled k = record { slots = map settle k.slots; chosen = k.chosen; skipping = k.skipping }
