use borrow.Author.Rules.{of_calls}
use Rattle.data.specs.Limits.{unit_interval_ok}
use Rattle.image_screen.proofs.unit_interval_bad.Goals as goal

pub returns : goal.returns
returns c = c.single_in_bad.ensures unit_interval_ok (λ r p. search of_calls)
