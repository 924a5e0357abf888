use Prim.Native.Nat.{◌<◌}
use mathlib.Core.Path.{ap, ◌∙◌}
use native.Mathlib.Numerals.{add-one}
use native.Mathlib.Omega.{arith}
use lib.ListN.{length}
use Rattle.kernel_report.proofs.Written.{blank, length_put, next_length, put_step}
use Rattle.kernel_report.proofs.report.write_report.Goals as goal

pub loop-slot-preserved : goal.loop-slot-preserved
loop-slot-preserved c =
    let now = c.loop-slot in
    let ss = c.args.k.slots in
    let d = c.args.device in
    let h : now.slot-index < length ss = omega arith in
    let wrote = c.write_slot-next.ensures in
    record {
      places = ap length wrote.1 ∙ length_put _ _ now.feed ∙ now.invariant.places;
      next = rw (add-one now.slot-index) (omega (arith, wrote.0, now.invariant.next, next_length d blank now.slot-index ss h));
      written = rw (add-one now.slot-index) (put_step d now.slot-index now.next _ ss now.feed _ h wrote.0 wrote.1 ∙ now.invariant.written);
    }
