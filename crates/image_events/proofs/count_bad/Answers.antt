use mathlib.Core.Path.{◌∙◌}
use Rattle.image_events.proofs.Rows.{any_word}
use Rattle.image_events.proofs.count_bad.Goals as goal

pub returns : goal.returns
returns c = c.header_bad.ensures ∙ any_word _ _ _ c.word_at.ensures
