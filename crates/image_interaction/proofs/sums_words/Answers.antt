use Rattle.image.specs.Codes.{write, size}
use Rattle.image_interaction.proofs.sums_words.Goals as goal

pub returns : goal.returns
unfolding write size
returns c = (rw (c.single_word-5.ensures.0, c.single_word-4.ensures.0, c.single_word-3.ensures.0, c.single_word-2.ensures.0, c.single_word.ensures.0), ((c.single_word.ensures.1, tt), ((c.single_word-2.ensures.1, tt), ((c.single_word-3.ensures.1, tt), ((c.single_word-4.ensures.1, tt), (c.single_word-5.ensures.1, tt))))))
