use Rattle.host_questions.proofs.dragging.fivvarul_potential_click_id.Goals as goal

pub returns : goal.returns
returns c = rw c.into.ensures (rw c.interaction-interaction.ensures at c.potential_click_id.ensures)
