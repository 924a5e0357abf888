use Rattle.image.specs.Codes.{write}
use Rattle.image_options.proofs.U64TwoWords.words.Goals as goal

pub returns : goal.returns
unfolding write
returns c = (rw (c.low.ensures, c.high.ensures), tt)
