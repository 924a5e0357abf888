use borrow.Author.Rules.{of_calls}
use Rattle.image_words.specs.Leaves.{upto}
use Rattle.image_words.proofs.word_bad.Goals as goal

pub returns : goal.returns
returns c = c.one.ensures (upto _) (λ r p. search of_calls)
