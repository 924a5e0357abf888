use Rattle.model.specs.Questions.{ask, reply, shown}
use Rattle.panel.proofs.scrolling.time_since_last_scroll.Goals as goal

pub returns : goal.returns
unfolding ask reply shown
returns c p e t = c.time_since_last_scroll.ensures p e (rw t)
