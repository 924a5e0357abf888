use Rattle.model.specs.Questions.{ask, reply, shown}
use Rattle.panel.proofs.pointer.has_pointer.Goals as goal

pub returns : goal.returns
unfolding ask reply shown
returns c ts ps p e = c.has_pointer.ensures ts ps (shown p) e
