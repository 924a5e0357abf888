use lib.Ieee.{of_bits}
use Rattle.model.specs.Questions.{reply, shown}
use Rattle.model.specs.Numbers.{one}
use Rattle.input_questions.proofs.screen.physical_pixel_size.Goals as goal

pub returns : goal.returns
unfolding reply shown one of_bits
returns c p e = rw e
