use Rattle.image_options.specs.Options.{maybe_pos_el, maybe_time_el}
use Rattle.image_options.proofs.Trip.{boolean_in}
use Rattle.pointer_state.specs.View.{press}
use Rattle.image_pointer.proofs.Trip.{buttons_in}
use Rattle.image_pointer.proofs.Words.{press_list}
use Rattle.image_pointer.proofs.press.press_words.Goals as goal

pub returns : goal.returns
unfolding maybe_pos_el maybe_time_el
returns c = λ cs ps.
    let p = press cs ps c.args.p in (
      press_list p c.args.started c.args.moved _ _ _ _ _ _ _ _ _ _ _ _ _ c.maybe_words-o.ensures.0 c.maybe_words-s.ensures.0 c.maybe_words-c.ensures.0 c.maybe_words-m.ensures.0
          c.buttons_number.ensures.0 c.bit_number.ensures.0 c.bit_number-2.ensures.0 c.double_word-last.ensures.0 c.double_word-before.ensures.0 c.high.ensures c.low.ensures c.high-2.ensures c.low-2.ensures,
      (buttons_in p.held.down, (c.maybe_words-o.ensures.1, (c.maybe_words-s.ensures.1, (boolean_in p.past.has_moved_too_much_for_a_click, (c.maybe_words-c.ensures.1, ((c.double_word-last.ensures.1, tt), ((c.double_word-before.ensures.1, tt), (boolean_in c.args.started, c.maybe_words-m.ensures.1)))))))),
    )
