use Rattle.panel.proofs.Numbered.{same_event}
use Rattle.panel.proofs.Listed.{listed}
use Rattle.panel.proofs.buttons.pointer_event.Goals as goal

pub returns : goal.returns
returns c = record {
  of_event_at = λ p e l h. rw (← listed p l h, e) c.pointer_event.ensures;
  numbered = λ p e l h x k y j. same_event (rw (← listed p l h, e) c.pointer_event.ensures) k j;
}
