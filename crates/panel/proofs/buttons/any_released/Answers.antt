use Rattle.model.specs.Questions.{ask, reply, shown}
use Rattle.panel.proofs.buttons.any_released.Goals as goal

pub returns : goal.returns
unfolding ask reply shown
returns c ps p e = c.any_released.ensures ps (shown p) (rw e)
