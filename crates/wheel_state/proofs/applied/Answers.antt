use Rattle.model.specs.Wheel.{applied}
use Rattle.model.specs.Numbers.{one}
use lib.Ieee.{of_bits}
use Rattle.wheel_state.proofs.applied.Goals as goal

pub returns-then-abs : goal.returns-then-abs
unfolding applied one of_bits
returns-then-abs c = rw (← c.abs.ensures, c.if-abs.true)

pub returns : goal.returns
unfolding applied one of_bits
returns c = rw (← c.abs.ensures, c.if-abs.false)
