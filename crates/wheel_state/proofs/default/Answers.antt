use lib.Ieee.{of_bits, neg, div}
use Rattle.model.specs.Wheel.{wheel_default}
use Rattle.wheel_state.proofs.default.Goals as goal

pub returns : goal.returns
unfolding wheel_default of_bits neg div
returns c = rw (c.zero-zero.ensures, c.none.ensures)
