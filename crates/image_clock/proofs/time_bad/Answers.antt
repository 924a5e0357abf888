use borrow.Author.Rules.{of_calls}
use Rattle.data.specs.Limits.{time_ok}
use Rattle.image_clock.proofs.time_bad.Goals as goal

pub returns : goal.returns
returns c = c.double_in_bad.ensures time_ok (λ r p. search of_calls)
