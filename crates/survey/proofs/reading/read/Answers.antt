use Prim.Native.Nat.{suc, ◌+◌, ◌-◌}
use mathlib.Core.Path.{◌≡◌, sym, ◌∙◌}
use native.Mathlib.Omega.{arith}
use mathlib.Core.List.{[]}
use Rattle.data.specs.Limits.{max_events}
use Rattle.feed_check.proofs.Found.{good_at, malformed_at, outside_at}
use Rattle.survey.specs.Survey.{option}
use Rattle.survey.proofs.Places.{reads_first, fits, reads_more, read_done, over_is, malformed_is, outside_is, none_is, none_some}
use Rattle.survey.proofs.reading.read.Goals as goal

pub loop-n-init : goal.loop-n-init
loop-n-init c = reads_first _ _ c.clear.ensures

pub returns-then-at-feed : goal.returns-then-at-feed
unfolding option
returns-then-at-feed c =
    let ws = c.args.feed.now in
    let past = c.if-at-feed.true in
    read_done ws _ _ c.loop-n.at _ _ c.loop-n.invariant (λ us. (none_is ws _ c.loop-n.at past us).0) (none_is ws _ c.loop-n.at past []).1 (λ h. past)

pub push-requires : goal.push-requires
push-requires c =
    let ws = c.args.feed.now in
    let t = good_at ws c.loop-n.at _ _ (sym c.verdict_at.ensures ∙ c.in-Ok.is) in
    let z : max_events - c.loop-n._n ≡ suc (max_events - (c.loop-n._n + 1)) = omega arith in
    rw t.reader_is (fits ws c.loop-n.at _ _ c.if-at-feed.false t.found _ _ _ (rw z at c.loop-n.invariant))

pub loop-n-preserved : goal.loop-n-preserved
loop-n-preserved c =
    let ws = c.args.feed.now in
    let t = good_at ws c.loop-n.at _ _ (sym c.verdict_at.ensures ∙ c.in-Ok.is) in
    let z : max_events - c.loop-n._n ≡ suc (max_events - (c.loop-n._n + 1)) = omega arith in
    reads_more ws c.loop-n.at _ _ c.if-at-feed.false t.found _ _ _ (rw z at c.loop-n.invariant) _ (rw t.reader_is at c.push.ensures.last) (rw t.reader_is at c.push.ensures.others)

pub returns-in-Err-Malformed : goal.returns-in-Err-Malformed
unfolding option
returns-in-Err-Malformed c =
    let ws = c.args.feed.now in
    let found = malformed_at ws c.loop-n.at (sym c.verdict_at.ensures ∙ rw c.in-Err-Malformed.field-0-is at c.in-Err-Malformed.is) in
    let z : max_events - c.loop-n._n ≡ suc (max_events - (c.loop-n._n + 1)) = omega arith in
    let is = malformed_is ws c.loop-n.at c.if-at-feed.false (max_events - (c.loop-n._n + 1)) found in
    read_done ws _ c.loop-n._n c.loop-n.at _ _ (rw z at c.loop-n.invariant) (λ us. (is us).0) (is []).1 (λ h. none_some (sym h))

pub returns-in-Err-OutsideDomain : goal.returns-in-Err-OutsideDomain
unfolding option
returns-in-Err-OutsideDomain c =
    let ws = c.args.feed.now in
    let found = outside_at ws c.loop-n.at (sym c.verdict_at.ensures ∙ rw c.in-Err-OutsideDomain.field-0-is at c.in-Err-OutsideDomain.is) in
    let z : max_events - c.loop-n._n ≡ suc (max_events - (c.loop-n._n + 1)) = omega arith in
    let is = outside_is ws c.loop-n.at c.if-at-feed.false (max_events - (c.loop-n._n + 1)) found in
    read_done ws _ c.loop-n._n c.loop-n.at _ _ (rw z at c.loop-n.invariant) (λ us. (is us).0) (is []).1 (λ h. none_some (sym h))

pub returns-then-at-feed-2 : goal.returns-then-at-feed-2
unfolding option
returns-then-at-feed-2 c =
    let ws = c.args.feed.now in
    let here = c.if-at-feed-2.true in
    let z : max_events - c.loop-n._n ≡ 0 = omega arith in
    read_done ws 0 c.loop-n._n c.loop-n.at _ _ (rw z at c.loop-n.invariant) (λ us. (over_is ws c.loop-n.at here us).0) (over_is ws c.loop-n.at here []).1 (λ h. none_some (sym h))

pub returns : goal.returns
unfolding option
returns c =
    let ws = c.args.feed.now in
    let past = c.if-at-feed-2.false in
    read_done ws _ _ c.loop-n.at _ _ c.loop-n.invariant (λ us. (none_is ws _ c.loop-n.at past us).0) (none_is ws _ c.loop-n.at past []).1 (λ h. past)
