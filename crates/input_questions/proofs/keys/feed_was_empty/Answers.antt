use Rattle.model.specs.Questions.{reply, shown}
use Rattle.input_questions.proofs.keys.feed_was_empty.Goals as goal

pub returns : goal.returns
unfolding reply shown
returns c presses p e = rw e
