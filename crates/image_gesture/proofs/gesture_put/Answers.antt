use Rattle.image.specs.Codes.{write, option_words, zeros, size}
use Rattle.image_gesture.specs.Gesture.{gesture_el}
use Rattle.image_gesture.proofs.gesture_put.Goals as goal

pub returns-in-None : goal.returns-in-None
unfolding write option_words zeros size gesture_el
returns-in-None c = let g = c.in-None.is in (rw g c.zeros_put.ensures, rw g tt)
