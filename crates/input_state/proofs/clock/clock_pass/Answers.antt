use Rattle.model.specs.Pass.{clock_pass}
use Rattle.input_state.proofs.clock.clock_pass.Goals as goal

pub returns-then-i : goal.returns-then-i
unfolding clock_pass
returns-then-i c ws = rw (c.if-i.true, c.narrow-dt.ensures)

pub returns : goal.returns
unfolding clock_pass
returns c ws = rw (c.if-i.false, c.narrow-dt.ensures)
