use Rattle.model.specs.Questions.{ask, reply, shown}
use Rattle.panel.proofs.pointer.is_moving.Goals as goal

pub returns : goal.returns
unfolding ask reply shown
returns c ts ps p e = c.is_moving.ensures ts ps (shown p) e
