use Rattle.model.specs.Questions.{ask, reply, shown}
use Rattle.panel.proofs.buttons.any_down.Goals as goal

pub returns : goal.returns
unfolding ask reply shown
returns c cs ps p e = c.any_down.ensures cs ps (shown p) (rw e)
