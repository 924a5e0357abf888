use Rattle.interaction_events.specs.View.{seen_of}
use Rattle.interaction_events.proofs.Walk.{composed}
use Rattle.interaction_events.proofs.walked.Goals as goal

pub returns : goal.returns
unfolding seen_of
returns c ps x l =
    composed _ x _ _ l.widgets _ (c.forget_gone_click-known.ensures l.edges) _ c.abort_if-kept.ensures _ (c.long_touch_if-g.ensures l.edges) _ (c.pointer_events.ensures ps x l)
