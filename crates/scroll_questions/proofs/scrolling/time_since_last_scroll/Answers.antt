use Rattle.model.specs.Questions.{reply, shown}
use Rattle.scroll_questions.proofs.scrolling.time_since_last_scroll.Goals as goal

pub returns : goal.returns
unfolding reply shown
returns c p e t = rw (e, t, c.narrow.ensures)
