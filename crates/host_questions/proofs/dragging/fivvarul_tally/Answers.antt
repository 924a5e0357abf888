use mathlib.Core.Path.{ap}
use Rattle.model.specs.Questions.{ask, count}
use Rattle.host_questions.proofs.dragging.fivvarul_tally.Goals as goal

pub returns : goal.returns
unfolding ask
returns c p e = ap count e
