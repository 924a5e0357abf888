use borrow.Author.Rules.{of_calls}
use Rattle.image_words.specs.Leaves.{any}
use Rattle.image.specs.Codes.{single_ok}
use Rattle.image_words.proofs.single_bad.Goals as goal

pub returns : goal.returns
returns c = c.one.ensures (single_ok any) (λ r p. search of_calls)
