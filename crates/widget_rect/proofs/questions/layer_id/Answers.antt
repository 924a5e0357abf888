use Rattle.widget_rect.proofs.Asked.{answers_layer}
use borrow.Author.Tests.{lt-ltb, le-ltb}
use Rattle.widget_rect.proofs.questions.layer_id.Goals as goal

pub returns-then-i-layers_of : goal.returns-then-i-layers_of
returns-then-i-layers_of c = answers_layer _ _ _ _ _ (rw (← c.layers_of.ensures.0, lt-ltb _ _ c.if-i-layers_of.true, c.layer_at.ensures))

pub returns : goal.returns
returns c = answers_layer _ _ _ _ _ (rw (← c.layers_of.ensures.0, le-ltb _ _ c.if-i-layers_of.false))
