use Rattle.key_state.proofs.Members.{bit_is}
use Rattle.key_state.proofs.bits.bit.Goals as goal

pub returns : goal.returns
returns c = rw c.power-p.ensures (bit_is _ _)
