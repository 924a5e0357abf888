use Rattle.input_state.proofs.Absent.{no_rect_ok}
use Rattle.input_state.proofs.input.rect_given_ok.Goals as goal

pub returns : goal.returns
returns c = no_rect_ok _ _ c.is_none_or.ensures
