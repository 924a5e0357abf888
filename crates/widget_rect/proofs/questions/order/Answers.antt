use Rattle.widget_rect.proofs.Asked.{answers_order}
use Rattle.model.specs.Widgets as M
use Rattle.widget_rect.proofs.questions.order.Goals as goal

pub returns-in_err-s : goal.returns-in_err-s
unfolding M.order_of
returns-in_err-s c = answers_order _ _ _ _ _ _ (rw (← c.in_err-s.ensures.0) c.from_residual.ensures)

pub returns : goal.returns
unfolding M.order_of
returns c = answers_order _ _ _ _ _ _ (rw (← c.in_ok-s.ensures.0, c.widget_at-w.ensures, c.position_of.ensures.0))
