-- The invariant: the entries passed are refused by nothing, so what the others are refused by is the answer.
use Prim.Native.Nat.{◌≤◌, ◌-◌}
use mathlib.Core.Path.{◌≡◌}
use Rattle.std.specs.Slice.Iter.{chunks_exact_size, chunks_exact_rest}
use Rattle.std.specs.Iterator.Adapters.{enumerate_source, enumerate_count}
use Rattle.data.specs.Limits.{max_hits}
use Rattle.model.specs.Interact.{hits_refusal}
use Rattle.hit_lists.specs.Hits.{hits_of}
use Rattle.hit_refusals.proofs.hits_refusal.Given as goal

abbrev pub invariant-loop-i : goal.invariant-loop-i
invariant-loop-i l =
    let entries = enumerate_source l.i-iterator in
    let i = enumerate_count l.i-iterator in
    record {
      size : chunks_exact_size entries ≡ 2;
      few : i ≤ max_hits;
      same : hits_refusal (max_hits - i) i (hits_of (chunks_exact_rest entries)) ≡ hits_refusal max_hits 0 (hits_of l.words);
    }
