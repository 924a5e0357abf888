use Rattle.image.specs.Codes.{write, size}
use Rattle.image_history.proofs.sample_words.Goals as goal

pub returns : goal.returns
unfolding write size
returns c = (rw (c.single_word-2.ensures.0, c.single_word.ensures.0, c.low.ensures, c.high.ensures, c.double_word-t.ensures.0), ((c.double_word-t.ensures.1, tt), ((c.single_word.ensures.1, tt), (c.single_word-2.ensures.1, tt))))
