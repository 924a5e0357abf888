use Rattle.model.specs.Questions.{ask, reply, shown}
use Rattle.panel.proofs.pointer.total_drag_delta.Goals as goal

pub returns : goal.returns
unfolding ask reply shown
returns c ts ps cs qs p e h = c.total_drag_delta.ensures ts ps cs qs (shown p) e (rw h)
