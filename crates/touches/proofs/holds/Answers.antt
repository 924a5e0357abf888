use mathlib.Core.Path.{◌∙◌}
use Rattle.touches.proofs.Found.{holds_found}
use Rattle.touches.proofs.holds.Goals as goal

pub returns : goal.returns
returns c = c.is_some.ensures ∙ rw (c.find.ensures, c.held.ensures) (holds_found _ _)
