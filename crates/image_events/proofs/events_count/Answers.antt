use Rattle.image.specs.Places.{bad_at, span}
use Rattle.image.specs.Codes.{size}
use Rattle.image.proofs.Lists.{or_else_none}
use native.Mathlib.Omega.{arith}
use Rattle.image_events.proofs.events_count.Goals as goal

pub returns : goal.returns
unfolding bad_at span size
returns c =
    let l = c.list.ensures in
    let k = rw (l.0, l.1, l.2) at c.count.ensures in (
      k.0,
      λ e.
          let h = (or_else_none _ _ e).0 in
          let n = k.1 h in
          omega (arith, n),
    )
