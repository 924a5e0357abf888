use Prim.Native.Nat.{◌<◌}
use mathlib.Core.Path.{◌≡◌, sym, ◌∙◌}
use mathlib.Core.List.{map}
use native.Mathlib.Numerals.{add-one}
use native.Mathlib.Omega.{arith}
use lib.ListN.{length, length-set}
use Rattle.kernel_touch.specs.Slots.{settle, settled}
use Rattle.kernel_touch.proofs.SlotList.{from_next, from_last}
use Rattle.kernel_touch.proofs.slots.KernelTouches.settle.Goals as goal

pub loop-slot-preserved : goal.loop-slot-preserved
unfolding settle
loop-slot-preserved c =
    let before = c.loop-slot in
    let h : before.slot-index < length before.slot-items = omega arith in
    record {
      all = simp length-set before.invariant.all;
      settled = rw (add-one before.slot-index) (from_next _ before.slot-index before.slot-items h ∙ before.invariant.settled);
    }

pub returns : goal.returns
unfolding settled
returns c =
    let k = c.args.self in
    let all : c.loop-slot.slot-items ≡ map settle k.slots = sym (from_last c.loop-slot.slot-index c.loop-slot.slot-items (omega arith)) ∙ c.loop-slot.invariant.settled in
    (λ j. record { slots = all j; chosen = k.chosen; skipping = k.skipping })
