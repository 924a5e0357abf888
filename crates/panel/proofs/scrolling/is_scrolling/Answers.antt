use Rattle.model.specs.Questions.{ask, reply, shown}
use Rattle.panel.proofs.scrolling.is_scrolling.Goals as goal

pub returns : goal.returns
unfolding ask reply shown
returns c p e = rw (e, c.is_scrolling.ensures)
