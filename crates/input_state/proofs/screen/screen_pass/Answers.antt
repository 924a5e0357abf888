use Rattle.model.specs.Pass.{screen_pass}
use Rattle.input_state.proofs.Absent.{rect_absent}
use Rattle.input_state.proofs.screen.screen_pass.Goals as goal

pub returns : goal.returns
unfolding screen_pass
returns c ws = rw (c.unwrap_or.ensures, rect_absent)
