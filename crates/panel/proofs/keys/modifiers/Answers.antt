use Rattle.model.specs.Questions.{ask, reply, shown}
use Rattle.panel.proofs.keys.modifiers.Goals as goal

pub returns : goal.returns
unfolding ask reply shown
returns c presses p e = rw e
