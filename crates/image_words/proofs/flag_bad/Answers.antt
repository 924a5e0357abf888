use borrow.Author.Rules.{of_calls}
use Rattle.image_words.specs.Leaves.{flag}
use Rattle.image_words.proofs.flag_bad.Goals as goal

pub returns : goal.returns
returns c = c.one.ensures flag (λ r p. search of_calls)
