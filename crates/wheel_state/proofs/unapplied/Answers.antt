use Rattle.model.specs.Wheel.{unapplied}
use Rattle.model.specs.Numbers.{one}
use lib.Ieee.{of_bits}
use Rattle.wheel_state.proofs.unapplied.Goals as goal

pub returns-then-abs : goal.returns-then-abs
unfolding unapplied one of_bits
returns-then-abs c = rw (← c.abs.ensures, c.if-abs.true)

pub returns : goal.returns
unfolding unapplied one of_bits
returns c = rw (← c.abs.ensures, c.if-abs.false)
