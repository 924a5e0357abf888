use Rattle.image.specs.Codes.{write}
use Rattle.image_options.proofs.Vec2TwoWords.words.Goals as goal

pub returns : goal.returns
unfolding write
returns c = (rw (c.single_word-2.ensures.0, c.single_word.ensures.0), ((c.single_word.ensures.1, tt), (c.single_word-2.ensures.1, tt)))
