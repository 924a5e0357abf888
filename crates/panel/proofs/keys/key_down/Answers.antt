use Rattle.model.specs.Questions.{ask, reply, shown}
use Rattle.panel.proofs.keys.key_down.Goals as goal

pub returns : goal.returns
unfolding ask reply shown
returns c k p e = c.key_down.ensures k p e
