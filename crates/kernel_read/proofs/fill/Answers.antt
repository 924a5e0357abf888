use Prim.Native.Nat.{ℕ, ◌<◌}
use mathlib.Core.Path.{◌≡◌, refl, sym, ap, ◌∙◌, subst}
use mathlib.Core.List.{List}
use borrow.Author.Rules.{rules}
use native.Mathlib.Omega.{arith}
use lib.ListN.{length}
use Rattle.std.specs.Slice.Iter.{chunks_exact_rest}
use Rattle.kernel_report.proofs.Written.{length_put}
use Rattle.kernel_record.specs.Records.{record_bytes}
use Rattle.kernel_read.specs.Read.{kernel_of, words_of, feed_of, KernelOutcome}
use Rattle.kernel_read.proofs.Run.{Fillings, fill_first, going, fill_next, fill_last, filled_feed}
use Rattle.kernel_read.proofs.fill.Goals as goal

pub loop-record-init : goal.loop-record-init
loop-record-init c =
    let bytes = c.args.bytes.now in
    let feed = c.args.feed.now in
    let all : chunks_exact_rest c.into_iter-record-iterator.result ≡ bytes = search rules in
    record {
      size = search rules;
      places = refl;
      fillings = subst (λ (ahead : List ℕ). Fillings c.args.device 0 bytes ahead feed feed c.args.k.now c.args.k.now) (sym all) (fill_first c.args.device bytes feed c.args.k.now);
    }

pub write_record-at-requires : goal.write_record-at-requires
write_record-at-requires c =
    let now = c.loop-record in
    let steps = c.in-Some.ensures.steps in
    let go = going c.args.device now.at c.args.bytes.now _ _ _ c.args.feed.now now.feed c.args.k.now now.k c.record_at-r.result steps.1.0 (steps.1.1 ∙ now.invariant.size) c.record_at-r.ensures c.requires now.invariant.fillings in
    omega (arith, go.room, now.invariant.places)

pub loop-record-preserved : goal.loop-record-preserved
loop-record-preserved c =
    let now = c.loop-record in
    let steps = c.in-Some.ensures.steps in
    record {
      size = steps.0 ∙ now.invariant.size;
      places = ap length c.write_record-at.ensures.1 ∙ length_put _ _ now.feed ∙ now.invariant.places;
      fillings =
          rw c.after.ensures
          (fill_next c.args.device now.at c.args.bytes.now _ _ _ c.args.feed.now now.feed c.args.k.now now.k c.record_at-r.result _ _
          steps.1.0
          (steps.1.1 ∙ now.invariant.size)
          c.record_at-r.ensures
          c.requires
          c.write_record-at.ensures.0
          c.write_record-at.ensures.1
          now.invariant.fillings);
    }

pub returns : goal.returns
unfolding kernel_of words_of feed_of
returns c =
    let now = c.loop-record in
    let s = now.invariant.fillings in
    let short : length (chunks_exact_rest now.record-iterator) < record_bytes = omega (arith, c.in-None.ensures.steps.1.0, now.invariant.size) in
    let is = fill_last c.args.device now.at c.args.bytes.now _ c.args.feed.now now.feed c.args.k.now now.k short s in
    record {
      kernel = sym (ap (kernel_of c.args.k.now) is);
      words = s.at_is ∙ sym (ap (λ (o : KernelOutcome). length (words_of o)) is);
      feed_is = filled_feed c.args.device now.at c.args.bytes.now _ c.args.feed.now now.feed c.args.k.now now.k s ∙ sym (ap (feed_of c.args.feed.now) is);
    }
