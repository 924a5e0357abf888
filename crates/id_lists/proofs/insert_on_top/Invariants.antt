-- The invariant: what is written so far, with the ids of the entries to come, is the whole list.
use Prim.Native.Nat.{◌+◌, ◌≤◌}
use mathlib.Core.Path.{◌≡◌}
use lib.ListN.{length, take}
use Rattle.std.specs.Slice.Iter.{chunks_exact_size, chunks_exact_rest}
use Rattle.model.specs.Interact.{insert_on_top}
use Rattle.hit_lists.specs.Hits.{hits_of}
use Rattle.id_set.specs.Ids.{Written}
use Rattle.id_lists.proofs.insert_on_top.Given as goal

abbrev pub invariant-loop-entry : goal.invariant-loop-entry
invariant-loop-entry l =
    let ahead = chunks_exact_rest l.entry-iterator in
    record {
      size : chunks_exact_size l.entry-iterator ≡ 2;
      room : l.r + length (hits_of ahead) ≤ length l.initial.ids;
      places : length l.ids ≡ length l.initial.ids;
      written : Written (take l.r l.ids) l.initial.ids l.r l.ids;
      whole : insert_on_top l.top (hits_of l.close) (hits_of ahead) (take l.r l.ids) ≡ insert_on_top l.top (hits_of l.close) (hits_of l.words) (take l.count l.initial.ids);
    }
