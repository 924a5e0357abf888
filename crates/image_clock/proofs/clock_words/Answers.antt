use Rattle.image.specs.Codes.{write, size}
use Rattle.image_clock.proofs.clock_words.Goals as goal

pub returns : goal.returns
unfolding write size
returns c = (rw (c.single_word-3.ensures.0, c.single_word-2.ensures.0, c.single_word.ensures.0, c.low-2.ensures, c.high-2.ensures, c.low.ensures, c.high.ensures, c.double_word-pointer_time.ensures.0, c.double_word-time.ensures.0), λ h. ((c.double_word-time.ensures.1, h.0), ((c.double_word-pointer_time.ensures.1, tt), ((c.single_word.ensures.1, tt), ((c.single_word-2.ensures.1, tt), (c.single_word-3.ensures.1, h.1))))))
