use Rattle.model.specs.Questions.{ask, reply, shown}
use Rattle.panel.proofs.keys.num_presses.Goals as goal

pub returns : goal.returns
unfolding ask reply shown
returns c k p e = c.num_presses.ensures k p e
