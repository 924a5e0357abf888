use Rattle.model.specs.Questions.{reply, shown}
use Rattle.input_questions.proofs.keys.key_down.Goals as goal

pub returns : goal.returns
unfolding reply shown
returns c presses p e = rw (e, c.key_down.ensures presses)
