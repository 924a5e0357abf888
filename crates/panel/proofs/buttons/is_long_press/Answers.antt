use Rattle.model.specs.Questions.{ask, reply, shown}
use Rattle.model.specs.Interact.{long_press}
use Rattle.panel.proofs.buttons.is_long_press.Goals as goal

pub returns : goal.returns
unfolding ask reply shown long_press
returns c cs ps p hc hy hs hb = rw (hc, hy, hs, hb, c.is_long_press.ensures cs ps)
