use mathlib.Core.Path.{◌≡◌}
use lib.ListN.{length}
use Rattle.std.specs.Slice.Iter.{chunks_exact_size, chunks_exact_rest}
use Rattle.kernel_record.specs.Records.{record_bytes}
use Rattle.kernel_read.proofs.Run.{Fillings}
use Rattle.kernel_read.proofs.fill.Given as goal

abbrev pub invariant-loop-record : goal.invariant-loop-record
invariant-loop-record l = record {
  size : chunks_exact_size l.record-iterator ≡ record_bytes;
  places : length l.feed ≡ length l.initial.feed;
  fillings : Fillings l.device l.at l.bytes (chunks_exact_rest l.record-iterator) l.initial.feed l.feed l.initial.k l.k;
}
