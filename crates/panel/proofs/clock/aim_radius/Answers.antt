use Rattle.model.specs.Questions.{ask, reply, shown}
use Rattle.panel.proofs.clock.aim_radius.Goals as goal

pub returns : goal.returns
unfolding ask reply shown
returns c p e = c.aim_radius.ensures p (rw e)
