use Rattle.model.specs.Questions.{reply, shown}
use Rattle.input_questions.proofs.keys.key_pressed.Goals as goal

pub returns : goal.returns
unfolding reply shown
returns c k p e = rw (e, c.key_pressed.ensures k)
