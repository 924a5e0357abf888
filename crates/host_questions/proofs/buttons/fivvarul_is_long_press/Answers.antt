use Rattle.host_questions.proofs.buttons.fivvarul_is_long_press.Goals as goal

pub returns : goal.returns
returns c = rw (c.clock-clock.ensures, c.screen-screen.ensures, c.pointer-pointer.ensures) at c.is_long_press.ensures
