use Rattle.input_state.proofs.Absent.{time_absent}
use Rattle.input_state.proofs.input.time_of.Goals as goal

pub returns : goal.returns
returns c = rw (c.unwrap_or.ensures, c.widen.ensures) (time_absent _ _ _)
