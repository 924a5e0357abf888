use Rattle.model.specs.Questions.{ask, reply, shown}
use Rattle.panel.proofs.touching.any_touches.Goals as goal

pub returns : goal.returns
unfolding ask reply shown
returns c p e = rw (e, c.any_touches.ensures)
