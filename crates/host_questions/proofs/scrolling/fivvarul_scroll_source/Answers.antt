use Rattle.host_questions.proofs.scrolling.fivvarul_scroll_source.Goals as goal

pub returns : goal.returns
returns c = rw c.into.ensures (rw c.wheel-wheel.ensures at c.scroll_source.ensures.of_wheel)
