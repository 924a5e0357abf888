use Prim.Native.Nat.{ℕ, ◌+◌, ◌*◌, ◌≤◌}
use mathlib.Core.Path.{◌≡◌}
use lib.ListN.{length, drop}
use Rattle.feed.specs.Encode.{encode_all}
use Rattle.kernel_report.specs.Report.{report}
use Rattle.kernel_report.proofs.report.report_words.Given as goal

-- the words of the slots before the index; those from it on are left
abbrev pub invariant-loop-slot : goal.invariant-loop-slot
invariant-loop-slot l = record {
  few : l.words ≤ 14 * l.slot-index;
  left : (device : ℕ) → l.words + length (encode_all (report device (drop l.slot-index l.slot-items))) ≡ length (encode_all (report device l.slot-items));
}
