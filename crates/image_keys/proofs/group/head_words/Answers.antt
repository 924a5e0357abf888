use Rattle.image_keys.specs.Keys.{keys_head}
use Rattle.image.specs.Codes.{write, size}
use Rattle.image_keys.proofs.Bits.{down_in}
use Rattle.key_state.specs.View.{down_of}
use Rattle.image_options.proofs.Trip.{boolean_in, modifiers_in}
use Rattle.image_keys.proofs.group.head_words.Goals as goal

pub returns : goal.returns
unfolding keys_head write size
returns c = λ ps. (rw (c.bit_number.ensures.0, c.number.ensures.0, c.down_words-d.ensures.0), (down_in (down_of c.args.k.down), modifiers_in c.args.k.modifiers, boolean_in c.args.k.feed_empty))
