use Rattle.model.specs.Questions.{ask, reply, shown}
use Rattle.panel.proofs.zoom.translation_delta.Goals as goal

pub returns : goal.returns
unfolding ask reply shown
returns c p d s = c.translation_delta.ensures p d (rw s)
