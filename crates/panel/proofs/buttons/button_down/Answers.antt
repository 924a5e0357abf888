use Rattle.model.specs.Questions.{ask, reply, shown}
use Rattle.panel.proofs.buttons.button_down.Goals as goal

pub returns : goal.returns
unfolding ask reply shown
returns c cs ps p e = c.button_down.ensures cs ps (shown p) (rw e)
