use Rattle.host_questions.proofs.pointer.fivvarul_total_drag_delta.Goals as goal

pub returns : goal.returns
returns c = rw c.into.ensures (rw c.pointer-pointer.ensures at c.total_drag_delta.ensures)
