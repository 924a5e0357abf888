use Rattle.host_questions.proofs.events.fivvarul_pointer_event.Goals as goal

pub returns : goal.returns
returns c = rw c.into.ensures (rw c.press-press.ensures at c.pointer_event.ensures.of_event_at)
