use Rattle.image.specs.Codes.{write}
use Rattle.image_gesture.proofs.Parts.{pinch_in}
use Rattle.image_gesture.proofs.start_words.Goals as goal

pub returns : goal.returns
unfolding write
returns c =
    let y = c.single_word-2.ensures in
    let x = c.single_word.ensures in
    let time = c.double_word-time.ensures in (
      rw (c.number.ensures.0, y.0, x.0, c.low.ensures, c.high.ensures, time.0),
      ((time.1, tt), (((x.1, tt), (y.1, tt)), pinch_in c.args.g.pinch_type)),
    )
