use Prim.Native.Nat.{◌+◌}
use mathlib.Core.Path.{◌≡◌}
use lib.ListN.{length, drop}
use Rattle.feed.specs.Encode.{encode_all}
use Rattle.kernel_report.specs.Put.{put}
use Rattle.kernel_report.specs.Report.{report}
use Rattle.kernel_report.proofs.report.write_report.Given as goal

-- the slots before the index are written; those from it on are left
abbrev pub invariant-loop-slot : goal.invariant-loop-slot
invariant-loop-slot l = record {
  places : length l.feed ≡ length l.initial.feed;
  next : l.next + length (encode_all (report l.device (drop l.slot-index l.slot-items))) ≡ l.at + length (encode_all (report l.device l.slot-items));
  written : put l.next (encode_all (report l.device (drop l.slot-index l.slot-items))) l.feed ≡ put l.at (encode_all (report l.device l.slot-items)) l.initial.feed;
}
