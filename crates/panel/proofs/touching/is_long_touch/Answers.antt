use Rattle.model.specs.Questions.{ask, reply, shown}
use Rattle.panel.proofs.touching.is_long_touch.Goals as goal

pub returns : goal.returns
unfolding ask reply shown
returns c cs ps p hc hy hs hb hd = c.is_long_touch.ensures cs ps p hd hs (rw hy) (rw hc) hb
