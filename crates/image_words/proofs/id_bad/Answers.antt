use borrow.Author.Rules.{of_calls}
use Rattle.image_words.specs.Leaves.{any_id}
use Rattle.image_words.proofs.id_bad.Goals as goal

pub returns : goal.returns
returns c = c.two.ensures any_id (λ r p. search of_calls)
