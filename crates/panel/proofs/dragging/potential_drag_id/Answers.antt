use Rattle.model.specs.Questions.{ask, reply, shown}
use Rattle.interaction_state.specs.View.{interaction_of}
use Rattle.panel.proofs.dragging.potential_drag_id.Goals as goal

pub returns : goal.returns
unfolding ask reply shown interaction_of
returns c p e = rw e
