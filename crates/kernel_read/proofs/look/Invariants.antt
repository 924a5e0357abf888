use Prim.Native.Nat.{ℕ}
use mathlib.Core.Path.{◌≡◌}
use mathlib.Core.Bool.{◌||◌}
use Rattle.std.specs.Slice.Iter.{chunks_exact_size, chunks_exact_rest}
use Rattle.kernel_record.specs.Records.{record_bytes, held_dropped}
use Rattle.kernel_read.specs.Read.{all_records}
use Rattle.kernel_read.proofs.Run.{Looks}
use Rattle.kernel_read.proofs.look.Given as goal

abbrev pub invariant-loop-record : goal.invariant-loop-record
invariant-loop-record l =
    let ahead = chunks_exact_rest l.record-iterator in
    record {
      size : chunks_exact_size l.record-iterator ≡ record_bytes;
      held : (l.dropped || held_dropped (all_records ahead)) ≡ held_dropped (all_records l.bytes);
      looks : (device : ℕ) → Looks device l.room l.left l.bytes ahead l.initial.kernel l.kernel;
    }
