use borrow.Author.Rules.{of_calls}
use Rattle.data.specs.Limits.{length_ok}
use Rattle.image_screen.proofs.length_bad.Goals as goal

pub returns : goal.returns
returns c = c.single_in_bad.ensures length_ok (λ r p. search of_calls)
