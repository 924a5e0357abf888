use Rattle.input_state.proofs.Absent.{rect_absent}
use Rattle.input_state.proofs.state.wheel_part.Goals as goal

pub returns : goal.returns
returns c = rw (c.wheel_pass.ensures, c.places-scrolls.ensures.listed, c.unwrap_or.ensures, rect_absent)
