use Rattle.model.specs.Questions.{ask, reply, shown}
use Rattle.panel.proofs.pointer.hover_pos.Goals as goal

pub returns : goal.returns
unfolding ask reply shown
returns c ts ps p e = c.hover_pos.ensures ts ps (shown p) e
