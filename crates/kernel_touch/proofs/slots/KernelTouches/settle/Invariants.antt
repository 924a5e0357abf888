use mathlib.Core.Path.{◌≡◌}
use mathlib.Core.List.{map}
use lib.ListN.{length}
use Rattle.kernel_values.specs.Value.{max_slots}
use Rattle.kernel_touch.specs.Slots.{settle}
use Rattle.kernel_touch.proofs.SlotList.{settled_from}
use Rattle.kernel_touch.proofs.slots.KernelTouches.settle.Given as goal

-- the slots before the index are settled
abbrev pub invariant-loop-slot : goal.invariant-loop-slot
invariant-loop-slot l = record {
  all : length l.slot-items ≡ max_slots;
  settled : settled_from l.slot-index l.slot-items ≡ map settle l.fn.self.slots;
}
