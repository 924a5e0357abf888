use Rattle.model.specs.Questions.{ask}
use Rattle.pointer_questions.proofs.buttons.time_since_last_click.Goals as goal

pub returns : goal.returns
unfolding ask
returns c s t e = rw (t, e, c.narrow.ensures)
