use Rattle.model.specs.Interact.{forget_gone_click}
use Rattle.interaction_state.specs.View.{interaction_of}
use Rattle.interaction_events.proofs.Looked.{known_kept}
use Rattle.interaction_events.proofs.forget_gone_click.Goals as goal

pub returns : goal.returns
unfolding forget_gone_click interaction_of
returns c edges = rw (known_kept, c.known_id.ensures edges)
