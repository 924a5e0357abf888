use Rattle.host_questions.proofs.scrolling.fivvarul_smooth_scroll_delta.Goals as goal

pub returns : goal.returns
returns c = rw c.into.ensures (rw c.sums-sums.ensures at c.smooth_scroll_delta.ensures)
