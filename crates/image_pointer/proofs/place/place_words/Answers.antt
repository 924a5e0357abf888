use Rattle.image_options.specs.Options.{maybe_pos_el, maybe_vec_el}
use Rattle.pointer_place.specs.View.{place}
use Rattle.image_pointer.proofs.Words.{place_list}
use Rattle.image_pointer.proofs.place.place_words.Goals as goal

pub returns : goal.returns
unfolding maybe_pos_el maybe_vec_el
returns c = λ ts ps. (
  place_list (place ts ps c.args.p) _ _ _ _ _ _ _ _ _ c.maybe_words-l.ensures.0 c.maybe_words-i.ensures.0 c.maybe_words-m.ensures.0
      c.single_word.ensures.0 c.single_word-2.ensures.0 c.single_word-3.ensures.0 c.single_word-4.ensures.0 c.single_word-5.ensures.0 c.single_word-6.ensures.0,
  (c.maybe_words-l.ensures.1, (c.maybe_words-i.ensures.1, (((c.single_word.ensures.1, tt), (c.single_word-2.ensures.1, tt)), (c.maybe_words-m.ensures.1, (((c.single_word-3.ensures.1, tt), (c.single_word-4.ensures.1, tt)), ((c.single_word-5.ensures.1, tt), (c.single_word-6.ensures.1, tt))))))),
)
