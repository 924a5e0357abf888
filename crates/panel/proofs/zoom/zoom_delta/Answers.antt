use Rattle.model.specs.Questions.{ask, reply, shown}
use Rattle.panel.proofs.zoom.zoom_delta.Goals as goal

pub returns : goal.returns
unfolding ask reply shown
returns c p d s = c.zoom_delta.ensures p d (rw s) (rw s)
