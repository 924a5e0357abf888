use Rattle.image_keys.proofs.Bits.{down_list, down_in}
use Rattle.key_state.specs.View.{down_of}
use Rattle.image_keys.proofs.down.down_words.Goals as goal

pub returns : goal.returns
returns c = (down_list c.args.s _ _ _ _ _ c.low.ensures c.high.ensures c.high.type_inv c.low-2.ensures c.high-2.ensures c.high-2.type_inv c.last.ensures, down_in (down_of c.args.s))
