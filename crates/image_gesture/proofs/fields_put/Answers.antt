use Rattle.image_gesture.specs.Gesture.{averages_el, previous_el, start_el, gesture_el}
use Rattle.image_gesture.proofs.Parts.{put_fields}
use Rattle.image_gesture.proofs.fields_put.Goals as goal

pub returns : goal.returns
unfolding gesture_el
returns c =
    let start = c.start_words-start.ensures in
    let averages = c.averages_words-averages.ensures in
    let previous = c.previous_put.ensures in
    let a = c.args in
    let g = a.g in (
      rw (c.copy-2.ensures, previous.0, c.copy.ensures, start.0, averages.0) (put_fields a.out.now a.at (start_el g) (previous_el g.previous) (averages_el g.current)),
      (start.1, (previous.1, averages.1)),
    )
