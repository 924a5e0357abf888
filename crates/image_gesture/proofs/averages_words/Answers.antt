use Rattle.image.specs.Codes.{write}
use Rattle.image_gesture.proofs.averages_words.Goals as goal

pub returns : goal.returns
unfolding write
returns c =
    let p8 = c.single_word-8.ensures in
    let p7 = c.single_word-7.ensures in
    let p6 = c.single_word-6.ensures in
    let p5 = c.single_word-5.ensures in
    let p4 = c.single_word-4.ensures in
    let p3 = c.single_word-3.ensures in
    let p2 = c.single_word-2.ensures in
    let p1 = c.single_word.ensures in (
      rw (p8.0, p7.0, p6.0, p5.0, p4.0, p3.0, p2.0, p1.0),
      ((p1.1, tt), (((p2.1, tt), (p3.1, tt)), (((p4.1, tt), (p5.1, tt)), ((p6.1, tt), ((p7.1, tt), (p8.1, tt)))))),
    )
