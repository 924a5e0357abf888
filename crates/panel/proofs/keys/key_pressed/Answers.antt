use Rattle.model.specs.Questions.{ask, reply, shown}
use Rattle.panel.proofs.keys.key_pressed.Goals as goal

pub returns : goal.returns
unfolding ask reply shown
returns c k p e = c.key_pressed.ensures k p e
