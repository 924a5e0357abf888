use mathlib.Core.Path.{refl}
use Rattle.model.specs.Questions.{ask}
use Rattle.panel.proofs.dragging.tally.Goals as goal

pub returns : goal.returns
unfolding ask
returns c l = refl
