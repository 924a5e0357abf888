use Rattle.host_questions.proofs.dragging.fivvarul_dragged.Goals as goal

pub returns : goal.returns
returns c = rw c.into.ensures (rw c.interaction-interaction.ensures at c.dragged.ensures)
