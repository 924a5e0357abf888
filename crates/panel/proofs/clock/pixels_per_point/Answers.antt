use Rattle.model.specs.Questions.{ask, reply, shown}
use Rattle.panel.proofs.clock.pixels_per_point.Goals as goal

pub returns : goal.returns
unfolding ask reply shown
returns c p e = rw e
