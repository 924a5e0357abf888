use mathlib.Core.Path.{◌∙◌}
use Rattle.touches.proofs.Found.{place_or}
use Rattle.touches.proofs.sorted.place_of.Goals as goal

pub returns : goal.returns
returns g c = c.unwrap_or.ensures ∙ rw c.find_from.ensures (place_or _ _ _)
