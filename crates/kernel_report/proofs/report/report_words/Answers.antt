use Prim.Native.Nat.{◌<◌}
use native.Mathlib.Numerals.{add-one}
use native.Mathlib.Omega.{arith}
use lib.ListN.{length, get_or}
use Rattle.kernel_report.proofs.Written.{blank, slot_le, next_length}
use Rattle.kernel_report.proofs.report.report_words.Goals as goal

pub overflow_add-words : goal.overflow_add-words
overflow_add-words c =
    let now = c.loop-slot in
    omega (arith, now.invariant.few, c.slot_words-words.ensures 0, slot_le 0 (get_or c.args.k.slots now.slot-index blank))

pub loop-slot-preserved : goal.loop-slot-preserved
loop-slot-preserved c =
    let now = c.loop-slot in
    let ss = c.args.k.slots in
    let h : now.slot-index < length ss = omega arith in
    record {
      few = omega (arith, now.invariant.few, c.slot_words-words.ensures 0, slot_le 0 (get_or ss now.slot-index blank));
      left = λ d. rw (add-one now.slot-index) (omega (arith, now.invariant.left d, c.slot_words-words.ensures d, next_length d blank now.slot-index ss h));
    }
