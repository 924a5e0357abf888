use Rattle.model.specs.Interact.{interact}
use Rattle.panel.proofs.Seen.{sees_events}
use Rattle.panel.proofs.Lookup.{looked_up}
use Rattle.panel.proofs.interact.interact.Goals as goal

pub returns : goal.returns
unfolding interact
returns c =
    record {
      own = λ p h n t edges. rw (sees_events p _ _ h.press_is (c.seen-view.ensures p h)) (c.interact.ensures h.places edges p n t);
      model = λ p h n t edges wf. rw (looked_up _ _ _ _ wf, sees_events p _ _ h.press_is (c.seen-view.ensures p h)) (c.interact.ensures h.places edges p n t);
    }
