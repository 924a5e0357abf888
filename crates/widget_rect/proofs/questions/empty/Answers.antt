use Rattle.widget_rect.proofs.Asked.{is_empty}
use Rattle.widget_rect.proofs.questions.empty.Goals as goal

pub returns : goal.returns
returns c = is_empty
