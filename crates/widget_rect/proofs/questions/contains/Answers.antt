use mathlib.Core.Path.{◌∙◌}
use Rattle.widget_rect.proofs.Asked.{answers_contains, is_there_if}
use Rattle.widget_rect.proofs.questions.contains.Goals as goal

pub returns : goal.returns
returns c = answers_contains _ _ _ _ _ (c.is_some.ensures ∙ rw (← c.find.ensures.0) (is_there_if _))
