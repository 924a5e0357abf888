use Rattle.model.specs.Questions.{reply, shown}
use Rattle.input_questions.proofs.screen.aim_radius.Goals as goal

pub returns : goal.returns
unfolding reply shown
returns c p e = c.physical_pixel_size.ensures p e
