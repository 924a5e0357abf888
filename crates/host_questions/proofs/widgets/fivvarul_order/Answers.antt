use Rattle.host_questions.proofs.widgets.fivvarul_order.Goals as goal

pub returns : goal.returns
returns c = rw c.into.ensures c.order.ensures
