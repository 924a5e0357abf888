use Rattle.widget_rect.proofs.Asked.{answers_get}
use Rattle.model.specs.Widgets as M
use Rattle.widget_rect.proofs.questions.get.Goals as goal

pub returns-in_err-s : goal.returns-in_err-s
unfolding M.widget_of
returns-in_err-s c = answers_get _ _ _ _ _ _ (rw (← c.in_err-s.ensures.0) c.from_residual.ensures)

pub returns : goal.returns
unfolding M.widget_of
returns c = answers_get _ _ _ _ _ _ (rw (← c.in_ok-s.ensures.0, c.widget_at.ensures))
