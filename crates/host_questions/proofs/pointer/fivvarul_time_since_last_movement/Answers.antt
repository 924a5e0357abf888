use Rattle.host_questions.proofs.pointer.fivvarul_time_since_last_movement.Goals as goal

pub returns : goal.returns
returns c = rw c.into.ensures (rw (c.pointer-pointer.ensures, c.clock-clock.ensures) at c.time_since_last_movement.ensures)
