use borrow.Author.Rules.{of_calls}
use lib.Dec.{eqb}
use Rattle.image_words.proofs.header_bad.Goals as goal

pub returns : goal.returns
returns c = c.one.ensures (eqb _) (λ r p. search of_calls)
