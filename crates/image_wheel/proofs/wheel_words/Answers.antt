use Rattle.image_wheel.proofs.Trip.{wheel_list, status_in, source_in}
use Rattle.image_options.proofs.Trip.{modifiers_in}
use Rattle.image_wheel.proofs.wheel_words.Goals as goal

pub returns : goal.returns
returns c = let w = c.args.w in (
  wheel_list w _ _ _ _ _ _ _ _ _ _ c.number.ensures.0 c.number-2.ensures.0 c.number-3.ensures.0 c.double_word-last.ensures.0 c.high.ensures c.low.ensures c.single_word.ensures.0 c.single_word-2.ensures.0 c.single_word-3.ensures.0 c.single_word-4.ensures.0,
  (status_in w.status, (source_in w.source, (modifiers_in w.modifiers, ((c.double_word-last.ensures.1, tt), (((c.single_word.ensures.1, tt), (c.single_word-2.ensures.1, tt)), ((c.single_word-3.ensures.1, tt), (c.single_word-4.ensures.1, tt))))))),
)
