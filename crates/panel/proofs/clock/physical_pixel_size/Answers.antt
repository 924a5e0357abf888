use Rattle.model.specs.Questions.{ask, reply, shown}
use Rattle.panel.proofs.clock.physical_pixel_size.Goals as goal

pub returns : goal.returns
unfolding ask reply shown
returns c p e = c.physical_pixel_size.ensures p (rw e)
