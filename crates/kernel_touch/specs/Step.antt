-- What one record refuses, and what it does.
use Rattle.std.specs.Prelude.{Bool, true, false, cond, Result, Ok, Err, ⊤}
use Rattle.kernel_values.specs.Value.{slot_ok, position_ok, tracking_id_ok}
use Rattle.kernel_record.specs.declared.KernelRecord.{KernelRecord}
use Rattle.kernel_record.specs.declared.KernelRecord.TheVariants.{MtSlot, MtPositionX, MtPositionY, MtTrackingId, ReportEnd, Dropped, Other}
use Rattle.kernel_touch.specs.declared.slots.KernelTouches.{KernelTouches}
use Rattle.kernel_touch.specs.declared.answer.KernelRefusal.{KernelRefusal}
use Rattle.kernel_touch.specs.declared.answer.KernelRefusal.TheVariants.{SlotOutside, OutsideDomain}
use Rattle.kernel_record.specs.Records.{is_end}
use Rattle.kernel_touch.specs.Slots.{with_x, with_y, with_id, choose, skips, settled}

unfoldable pub unless : Bool → KernelRefusal → Result ⊤ KernelRefusal
unless ok q = cond ok (Ok tt) (Err q)

-- "12 for a slot outside 0 to 9; 2 for a position over 65,536 in size or a tracking id below -1"
unfoldable pub bad : KernelRecord → Result ⊤ KernelRefusal
bad (MtSlot v) = unless (slot_ok v) SlotOutside
bad (MtPositionX v) = unless (position_ok v) OutsideDomain
bad (MtPositionY v) = unless (position_ok v) OutsideDomain
bad (MtTrackingId v) = unless (tracking_id_ok v) OutsideDomain
bad ReportEnd = Ok tt
bad Dropped = Ok tt
bad Other = Ok tt

-- a record that is not skipped
unfoldable pub done : KernelRecord → KernelTouches → KernelTouches
done (MtSlot v) k = choose v k
done (MtPositionX v) k = with_x v k
done (MtPositionY v) k = with_y v k
done (MtTrackingId v) k = with_id v k
done ReportEnd k = settled k
done Dropped k = skips true k
done Other k = k

-- "After 'dropped', everything is skipped through the next report end"
unfoldable pub skipped : KernelRecord → KernelTouches → KernelTouches
skipped r k = cond (is_end r) (skips false k) k

unfoldable pub after : KernelRecord → KernelTouches → KernelTouches
after r k = cond k.skipping (skipped r k) (done r k)

unfoldable pub refusal : KernelRecord → KernelTouches → Result ⊤ KernelRefusal
refusal r k = cond k.skipping (Ok tt) (bad r)
