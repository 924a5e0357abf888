use Rattle.model.specs.Questions.{ask, reply, shown}
use Rattle.panel.proofs.repaint.wants_repaint_after.Goals as goal

pub returns : goal.returns
unfolding ask reply shown
returns c ts ps qs presses p hc hy hx hs hw hk hd = c.wants_repaint_after.ensures ts ps qs p hx hs hw (rw hk) hd (rw hy) (rw hc) (rw hc)
