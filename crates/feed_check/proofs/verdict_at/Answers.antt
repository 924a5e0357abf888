use Prim.Native.Nat.{◌-◌, ◌≤◌, ◌<◌}
use lib.ListN.{get_or, length}
use native.Mathlib.Omega.{arith}
use Rattle.feed.specs.Split.{following}
use Rattle.feed.proofs.Reading.{event_at_past, event_at_short, event_at_whole}
use Rattle.feed_check.specs.Verdict.{verdict_of, verdict_at}
use Rattle.feed_check.proofs.verdict_at.Goals as goal

pub returns-then-n-feed : goal.returns-then-n-feed
unfolding verdict_at
returns-then-n-feed c =
    let a = c.args in
    let whole : following (get_or a.feed.now a.at 0) < length a.feed.now - a.at = omega arith in
    rw (event_at_whole _ _ c.if-at-feed.true whole, ← c.following-n.ensures) c.by_kind.ensures

pub returns-then-at-feed : goal.returns-then-at-feed
unfolding verdict_at verdict_of
returns-then-at-feed c =
    let a = c.args in
    let short : length a.feed.now - a.at ≤ following (get_or a.feed.now a.at 0) = omega arith in
    rw (event_at_short _ _ c.if-at-feed.true short)

pub returns : goal.returns
unfolding verdict_at verdict_of
returns c = rw (event_at_past _ _ c.if-at-feed.false)
