use lib.Ieee.{of_bits, div, neg}
use Rattle.model.specs.Numbers.{sixtieth}
use Rattle.model.specs.Pass.{fresh}
use mathlib.Core.Path.{refl}
use Rattle.input_state.proofs.clock.fresh_clock.Goals as goal

pub returns : goal.returns
unfolding fresh sixtieth of_bits div neg
returns c = refl
