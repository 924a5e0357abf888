use Rattle.image_screen.proofs.Words.{options_list, options_parts}
use Rattle.image_options.proofs.Trip.{modifiers_in}
use Rattle.image_screen.proofs.options_words.Goals as goal

pub returns : goal.returns
returns c = let o = c.args.o in (
  options_list o _ _ _ _ _ _ _ _ _ _ _ _ c.single_word.ensures.0 c.single_word-2.ensures.0 c.single_word-3.ensures.0 c.double_word-duration.ensures.0 c.double_word-delay.ensures.0 c.high.ensures c.low.ensures c.high-2.ensures c.low-2.ensures c.number.ensures.0 c.number-2.ensures.0 c.number-3.ensures.0,
  λ h. let k = options_parts o h in ((c.single_word.ensures.1, k.0), ((c.single_word-2.ensures.1, k.1), ((c.single_word-3.ensures.1, k.2), ((c.double_word-duration.ensures.1, k.3), ((c.double_word-delay.ensures.1, k.4), (modifiers_in o.zoom_modifier, (modifiers_in o.horizontal_scroll_modifier, modifiers_in o.vertical_scroll_modifier))))))),
)
