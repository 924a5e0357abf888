use Rattle.image.specs.Codes.{write}
use Rattle.image_screen.proofs.Words.{rect_parts}
use Rattle.image_screen.proofs.rect_words.Goals as goal

pub returns : goal.returns
unfolding write
returns c = (rw (c.single_word-4.ensures.0, c.single_word-3.ensures.0, c.single_word-2.ensures.0, c.single_word.ensures.0), λ h. let k = rect_parts c.args.r h in ((c.single_word.ensures.1, k.0), ((c.single_word-2.ensures.1, k.1), ((c.single_word-3.ensures.1, k.2), (c.single_word-4.ensures.1, k.3)))))
