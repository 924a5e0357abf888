use Rattle.panel.proofs.Listed.{listed}
use Rattle.panel.proofs.buttons.pointer_event_count.Goals as goal

pub returns : goal.returns
returns c cs ps p e l h = rw (← listed p l h, e) (c.pointer_event_count.ensures cs ps)
