use Rattle.image_screen.proofs.Words.{screen_list}
use Rattle.image_options.proofs.Trip.{boolean_in}
use Rattle.input_state.specs.View.{screen}
use Rattle.image_screen.proofs.screen_words.Goals as goal

pub returns : goal.returns
returns c = let s = screen c.args.s in (
  screen_list s _ _ _ _ c.rect_words-r.ensures.0 c.options_words-o.ensures.0 c.single_word.ensures.0 c.bit_number.ensures.0,
  λ h. (c.rect_words-r.ensures.1 h.0, ((c.single_word.ensures.1, h.1), (boolean_in s.focused, c.options_words-o.ensures.1 h.2))),
)
