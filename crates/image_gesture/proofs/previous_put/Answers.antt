use native.Mathlib.Numerals.{add-one}
use Rattle.image.specs.Codes.{write, option_words, zeros, size}
use Rattle.image_gesture.specs.Gesture.{previous_el}
use Rattle.image_gesture.proofs.previous_put.Goals as goal

pub returns-in-None : goal.returns-in-None
unfolding write option_words zeros size previous_el
returns-in-None c = let g = c.in-None.is in (rw g c.zeros_put.ensures, rw g tt)

pub returns-in-Some : goal.returns-in-Some
unfolding write option_words zeros size previous_el
returns-in-Some c =
    let g = c.in-Some.is in
    (rw (g, c.copy.ensures, c.averages_words-part.ensures.0, add-one), rw g c.averages_words-part.ensures.1)
