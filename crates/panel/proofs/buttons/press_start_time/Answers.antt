use Rattle.model.specs.Questions.{ask, reply, shown}
use Rattle.panel.proofs.buttons.press_start_time.Goals as goal

pub returns : goal.returns
unfolding ask reply shown
returns c cs ps p e = c.press_start_time.ensures cs ps (shown p) (rw e)
