use Rattle.interaction_state.specs.View.{interaction_of, kept_after}
use Rattle.interaction_state.proofs.drag.interaction_after.Goals as goal

pub returns : goal.returns
unfolding kept_after interaction_of
returns c x edges hw hc hk = rw (c.kept_if-2.ensures, c.kept_if.ensures, c.dragged_after-dragged.ensures x edges hw hc hk)
