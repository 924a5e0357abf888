use Rattle.model.specs.Questions.{ask, reply, shown}
use Rattle.model.specs.Pass.{decidedly_dragging}
use Rattle.panel.proofs.buttons.is_decidedly_dragging.Goals as goal

pub returns : goal.returns
unfolding ask reply shown decidedly_dragging
returns c ps p hc hy hs = rw (hc, hy, hs, c.is_decidedly_dragging.ensures ps)
