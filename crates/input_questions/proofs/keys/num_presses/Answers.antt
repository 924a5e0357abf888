use Rattle.model.specs.Questions.{reply, shown}
use Rattle.input_questions.proofs.keys.num_presses.Goals as goal

pub returns : goal.returns
unfolding reply shown
returns c k p e = rw (e, c.num_presses.ensures k)
