use Rattle.model.specs.Questions.{ask, reply, shown}
use Rattle.panel.proofs.buttons.press_origin.Goals as goal

pub returns : goal.returns
unfolding ask reply shown
returns c cs ps p e = c.press_origin.ensures cs ps (shown p) (rw e)
