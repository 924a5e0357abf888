use Rattle.key_state.proofs.Members.{none_has}
use Rattle.key_state.proofs.bits.none.Goals as goal

pub returns : goal.returns
returns c k = none_has k
