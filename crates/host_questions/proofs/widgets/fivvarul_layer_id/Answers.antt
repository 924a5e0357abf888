use Rattle.host_questions.proofs.widgets.fivvarul_layer_id.Goals as goal

pub returns : goal.returns
returns c = rw c.into.ensures c.layer_id.ensures
