use Rattle.image.specs.Codes.{write}
use Rattle.image_options.proofs.F64TwoWords.words.Goals as goal

pub returns : goal.returns
unfolding write
returns c = (rw (c.low.ensures, c.high.ensures, c.double_word-b.ensures.0), (c.double_word-b.ensures.1, tt))
