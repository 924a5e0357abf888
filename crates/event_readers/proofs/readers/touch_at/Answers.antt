use native.Mathlib.Omega.{arith}
use mathlib.Core.Path.{sym}
use Rattle.data.specs.Kinds.{touch_kind}
use Rattle.feed.specs.Shape.{shape_by_kind}
use Rattle.event_readers.proofs.KnownKind.{or_other, whole_as, short_as}
use Rattle.event_readers.proofs.readers.touch_at.Goals as goal

pub returns-then-n-feed : goal.returns-then-n-feed
unfolding shape_by_kind
returns-then-n-feed c =
    let a = c.args in
    rw (c.unwrap_or.ensures, c.touch_shape.ensures, whole_as a.feed.now a.at touch_kind c.requires c.if-at-feed.true (omega arith)) (or_other _)

pub returns-else-n-feed : goal.returns-else-n-feed
returns-else-n-feed c = let a = c.args in sym (short_as a.feed.now a.at touch_kind c.requires c.if-at-feed.true (omega arith))
