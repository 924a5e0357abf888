use Rattle.image.specs.Places.{bad_at, span}
use Rattle.image.specs.Codes.{size}
use Rattle.image.proofs.Lists.{or_else_none}
use native.Mathlib.Omega.{arith}
use Rattle.image_history.proofs.history_count.Goals as goal

pub returns : goal.returns
unfolding bad_at span size
returns c = (
  c.count.ensures.0,
  λ e.
      let h = (or_else_none _ _ e).0 in
      let n = c.count.ensures.1 h in
      omega (arith, n),
)
