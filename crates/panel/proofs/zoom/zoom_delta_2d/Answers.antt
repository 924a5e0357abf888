use Rattle.model.specs.Questions.{ask, reply, shown}
use Rattle.panel.proofs.zoom.zoom_delta_2d.Goals as goal

pub returns : goal.returns
unfolding ask reply shown
returns c presses p d s k y = c.zoom_delta_2d.ensures p d (rw s) (rw s) (rw k) (rw y)
