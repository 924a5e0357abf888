use native.Mathlib.Omega.{arith}
use borrow.Author.Tests.{le-ltb, lt-ltb}
use Rattle.data.specs.Kinds.{touch_kind}
use Rattle.model.specs.Touch.{added_or_removed_touches}
use Rattle.feed.specs.Shape.{shape_by_kind, touch_shape, clean}
use Rattle.feed.proofs.Words.{word_after}
use Rattle.event_loop.specs.Shaped.{event_or_other}
use Rattle.event_readers.proofs.KnownKind.{whole_as, short_as}
use Rattle.touch_ends.proofs.Ended.{or_none}
use Rattle.touch_ends.proofs.ends.touch_adds_at.Goals as goal

pub returns-then-feed-at : goal.returns-then-feed-at
unfolding added_or_removed_touches
returns-then-feed-at c is =
    let a = c.args in
    rw (short_as a.feed.now a.at touch_kind is c.if-at-feed.false (omega arith))

pub returns-then-low-ge8 : goal.returns-then-low-ge8
unfolding added_or_removed_touches shape_by_kind touch_shape clean event_or_other
returns-then-low-ge8 c is =
    let a = c.args in
    rw (whole_as a.feed.now a.at touch_kind is c.if-at-feed.false (omega arith), le-ltb _ _ c.if-low-ge8.true)

pub returns : goal.returns
unfolding added_or_removed_touches shape_by_kind touch_shape clean event_or_other
returns c is =
    let a = c.args in
    rw (c.adds_or_removes.ensures, c.phase_of-phase.ensures, c.id_of-id.ensures, whole_as a.feed.now a.at touch_kind is c.if-at-feed.false (omega arith), lt-ltb _ _ c.if-low-ge8.false, word_after _ _ 0, word_after _ _ 1) (or_none _)
