use Prim.Native.Nat.{◌<◌}
use mathlib.Core.Path.{◌≡◌, sym, ap, ◌∙◌}
use borrow.Author.Rules.{rules}
use native.Mathlib.Omega.{arith}
use lib.ListN.{length}
use Rattle.std.specs.Slice.Iter.{chunks_exact_rest}
use Rattle.std.specs.Iterator.Adapters.{enumerate_source, enumerate_count}
use Rattle.std.proofs.lemmas.Result.{err_from_is_err_and}
use Rattle.data.specs.Limits.{max_hits}
use Rattle.hit_refusals.specs.Refusals.{refusal_of}
use Rattle.hit_refusals.proofs.Entries.{too_many, refused_here, passed, no_entry}
use Rattle.hit_refusals.proofs.hits_refusal.Goals as goal

pub loop-i-init : goal.loop-i-init
loop-i-init c =
    let all : chunks_exact_rest (enumerate_source c.into_iter-i-iterator.result) ≡ c.args.words.now = search rules in
    let none : enumerate_count c.into_iter-i-iterator.result ≡ 0 = search rules in
    record { size = search rules; few = rw none (omega arith); same = rw (all, none) }

pub returns-then-i-eq-MAX_HITS : goal.returns-then-i-eq-MAX_HITS
unfolding refusal_of
returns-then-i-eq-MAX_HITS c =
    let v = c.loop-i.invariant in
    let steps = c.in-Some.ensures.steps in
    rw steps.1 (sym (too_many _ _ _ steps.0.1.0 (steps.0.1.1 ∙ v.size) max_hits _ (omega (arith, steps.1))) ∙ v.same)

pub returns-in_err-entry_refusal : goal.returns-in_err-entry_refusal
unfolding refusal_of
returns-in_err-entry_refusal c =
    let v = c.loop-i.invariant in
    let steps = c.in-Some.ensures.steps in
    let q = err_from_is_err_and c.from_residual.result c.from_residual.ensures.1 in
    let l : enumerate_count c.loop-i.i-iterator < max_hits = omega (arith, steps.1, v.few) in
    rw (q.1, q.2)
    (sym (refused_here _ _ _ steps.0.1.0 (steps.0.1.1 ∙ v.size) max_hits _ l _ (rw (← steps.1) (sym c.entry_refusal.ensures ∙ ap refusal_of c.in_err-entry_refusal.was))) ∙ v.same)

pub loop-i-preserved : goal.loop-i-preserved
unfolding refusal_of
loop-i-preserved c =
    let v = c.loop-i.invariant in
    let steps = c.in-Some.ensures.steps in
    let l : enumerate_count c.loop-i.i-iterator < max_hits = omega (arith, steps.1, v.few) in
    record {
      size = steps.0.0 ∙ v.size;
      few = omega (arith, steps.2);
      same = rw steps.2 (sym (passed _ _ _ steps.0.1.0 (steps.0.1.1 ∙ v.size) max_hits _ l (rw (← steps.1) (sym c.entry_refusal.ensures ∙ ap refusal_of c.in_ok-entry_refusal.was))) ∙ v.same);
    }

pub returns : goal.returns
unfolding refusal_of
returns c =
    let v = c.loop-i.invariant in
    let short : length (chunks_exact_rest (enumerate_source c.loop-i.i-iterator)) < 2 = omega (arith, c.in-None.ensures.steps.0.1.0, v.size) in
    sym (no_entry _ _ _ short) ∙ v.same
