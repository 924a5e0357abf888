use Rattle.model.specs.Questions.{ask, reply, shown}
use Rattle.panel.proofs.touching.multi_touch.Goals as goal

pub returns : goal.returns
unfolding ask reply shown
returns c p e = rw (e, c.multi_touch.ensures)
