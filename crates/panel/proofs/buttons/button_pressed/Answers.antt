use Rattle.model.specs.Questions.{ask, reply, shown}
use Rattle.panel.proofs.buttons.button_pressed.Goals as goal

pub returns : goal.returns
unfolding ask reply shown
returns c ps p e = c.button_pressed.ensures ps (shown p) (rw e)
