use borrow.Author.Rules.{of_calls}
use Rattle.image_words.specs.Leaves.{any}
use Rattle.image.specs.Codes.{double_ok}
use Rattle.image_words.proofs.double_bad.Goals as goal

pub returns : goal.returns
returns c = c.two.ensures (double_ok any) (λ r p. search of_calls)
