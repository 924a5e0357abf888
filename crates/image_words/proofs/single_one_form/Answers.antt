use Rattle.image.specs.Codes.{single_ok}
use Rattle.image_words.proofs.Laws.{and-true}
use Rattle.image_words.proofs.single_one_form.Goals as goal

pub returns : goal.returns
unfolding single_ok
returns c = rw (and-true, c.to_bits32.ensures, c.from_bits32.ensures)
