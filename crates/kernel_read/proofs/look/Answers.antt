use mathlib.Core.Path.{◌≡◌, sym, ap, ◌∙◌, subst}
use mathlib.Core.List.{List}
use Prim.Native.Nat.{ℕ, ◌<◌}
use borrow.Author.Rules.{rules}
use native.Mathlib.Omega.{arith}
use lib.ListN.{length}
use Rattle.std.specs.Prelude.{Ok}
use Rattle.std.specs.Slice.Iter.{chunks_exact_rest}
use Rattle.std.proofs.lemmas.Result.{err_from_is_err_and}
use Rattle.kernel_record.specs.Records.{record_bytes, held_dropped}
use Rattle.kernel_read.specs.Read.{all_records}
use Rattle.kernel_read.specs.Steps.{looked}
use Rattle.kernel_read.proofs.Run.{Looks, look_first, look_next, look_refused, look_last, held_next, held_last, has_room}
use Rattle.kernel_read.proofs.look.Goals as goal

pub loop-record-init : goal.loop-record-init
loop-record-init c =
    let bytes = c.args.bytes.now in
    let all : chunks_exact_rest c.into_iter-record-iterator.result ≡ bytes = search rules in
    record {
      size = search rules;
      held = ap (λ (ahead : List ℕ). held_dropped (all_records ahead)) all;
      looks = λ device. subst (λ (ahead : List ℕ). Looks device c.args.room c.args.room bytes ahead c.args.k c.args.k) (sym all) (look_first device _ _ _);
    }

pub returns-in_err-verdict : goal.returns-in_err-verdict
unfolding looked
returns-in_err-verdict c =
    let now = c.loop-record in
    let bytes = c.args.bytes.now in
    let steps = c.in-Some.ensures.steps in
    let p = err_from_is_err_and c.from_residual.result c.from_residual.ensures.1 in
    rw (p.1, p.2)
    (λ device.
    sym (ap (looked (held_dropped (all_records bytes)))
    (look_refused device _ now.left _ bytes _ _ _ _ now.kernel c.record_at-r.result _ steps.1.0 (steps.1.1 ∙ now.invariant.size) c.record_at-r.ensures
    (c.record_words-words.ensures device)
    (sym c.verdict.ensures ∙ c.in_err-verdict.was)
    (now.invariant.looks device))))

pub overflow_sub-left : goal.overflow_sub-left
overflow_sub-left c =
    let now = c.loop-record in
    has_room 0 _ now.left c.record_at-r.result now.kernel (c.record_words-words.ensures 0) (sym c.verdict.ensures ∙ c.in_ok-verdict.was)

pub loop-record-preserved : goal.loop-record-preserved
loop-record-preserved c =
    let now = c.loop-record in
    let bytes = c.args.bytes.now in
    let steps = c.in-Some.ensures.steps in
    record {
      size = steps.0 ∙ now.invariant.size;
      held =
          held_next _ _ _ c.record_at-r.result now.dropped _ steps.1.0 (steps.1.1 ∙ now.invariant.size) c.record_at-r.ensures c.is_dropped-dropped.ensures
          ∙ now.invariant.held;
      looks =
          λ device.
          rw c.after-kernel.ensures
          (look_next device _ now.left _ bytes _ _ _ _ now.kernel c.record_at-r.result steps.1.0 (steps.1.1 ∙ now.invariant.size) c.record_at-r.ensures
          (c.record_words-words.ensures device)
          (sym c.verdict.ensures ∙ c.in_ok-verdict.was)
          (now.invariant.looks device));
    }

pub returns : goal.returns
unfolding looked
returns c =
    let now = c.loop-record in
    let bytes = c.args.bytes.now in
    let short : length (chunks_exact_rest now.record-iterator) < record_bytes = omega (arith, c.in-None.ensures.steps.1.0, now.invariant.size) in
    let held : now.dropped ≡ held_dropped (all_records bytes) = sym (held_last _ now.dropped short) ∙ now.invariant.held in
    (λ device.
    ap Ok held ∙ sym (ap (looked (held_dropped (all_records bytes))) (look_last device _ now.left bytes _ _ now.kernel short (now.invariant.looks device))))
