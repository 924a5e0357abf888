use borrow.Author.Rules.{of_calls}
use Rattle.data.specs.Limits.{coordinate_ok}
use Rattle.image_screen.proofs.coordinate_bad.Goals as goal

pub returns : goal.returns
returns c = c.single_in_bad.ensures coordinate_ok (λ r p. search of_calls)
