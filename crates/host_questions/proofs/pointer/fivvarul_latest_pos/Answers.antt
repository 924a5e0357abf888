use Rattle.host_questions.proofs.pointer.fivvarul_latest_pos.Goals as goal

pub returns : goal.returns
returns c = rw c.into.ensures (rw c.place-place.ensures at c.latest_pos.ensures)
