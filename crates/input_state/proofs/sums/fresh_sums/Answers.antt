use lib.Ieee.{of_bits}
use Rattle.model.specs.Pass.{fresh}
use Rattle.model.specs.Numbers.{one}
use Rattle.input_state.proofs.sums.fresh_sums.Goals as goal

pub returns : goal.returns
unfolding fresh one of_bits
returns c = rw c.zero-zero.ensures
