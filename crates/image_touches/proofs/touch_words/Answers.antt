use Rattle.image.specs.Codes.{write, entry_words, option_words, zeros, size}
use Rattle.image_touches.proofs.touch_words.Goals as goal

pub returns-in-None : goal.returns-in-None
unfolding write entry_words option_words zeros size
returns-in-None c =
    let g = c.in-None.is in (
      rw (g, c.single_word-y.ensures.0, c.single_word-x.ensures.0, c.low-l.ensures, c.high-h.ensures),
      ((c.single_word-x.ensures.1, tt), ((c.single_word-y.ensures.1, tt), rw g tt)),
    )

pub returns-in-Some : goal.returns-in-Some
unfolding write entry_words option_words zeros size
returns-in-Some c =
    let g = c.in-Some.is in (
      rw (g, c.single_word.ensures.0, c.single_word-y.ensures.0, c.single_word-x.ensures.0, c.low-l.ensures, c.high-h.ensures),
      ((c.single_word-x.ensures.1, tt), ((c.single_word-y.ensures.1, tt), rw g (c.single_word.ensures.1, tt))),
    )
