use Rattle.image.specs.Codes.{double_ok}
use Rattle.image_words.proofs.Laws.{and-true}
use Rattle.image_words.proofs.double_one_form.Goals as goal

pub returns : goal.returns
unfolding double_ok
returns c = rw (and-true, c.to_bits64.ensures, c.from_bits64.ensures)
