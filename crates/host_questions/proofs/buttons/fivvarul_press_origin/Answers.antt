use Rattle.host_questions.proofs.buttons.fivvarul_press_origin.Goals as goal

pub returns : goal.returns
returns c = rw c.into.ensures (rw c.press-press.ensures at c.press_origin.ensures)
