use lib.Ieee.{Float}
use Rattle.image.specs.Places.{value_at, span}
use Rattle.image.specs.Codes.{double, size}
use Rattle.image_words.specs.Leaves.{any}
use Rattle.image_options.specs.Options.{pair, pos_of, maybe_pos_of, maybe_time_of}
use Rattle.image_pointer.proofs.press.press_at.Goals as goal

pub returns : goal.returns
unfolding value_at span size maybe_pos_of maybe_time_of
returns c = λ cs ps.
    let o = c.maybe_at-press_origin.ensures pair pos_of c.pos_at.ensures in
    let s = c.maybe_at-press_start_time.ensures (double any) (λ (t : Float). t) c.double_at.ensures in
    let l = c.maybe_at-last_click_pos.ensures pair pos_of c.pos_at-2.ensures in
    rw (c.double_at-3.ensures, c.double_at-2.ensures, c.word_at-2.ensures, l, s, o, c.buttons_of-down.ensures, c.word_at.ensures)
