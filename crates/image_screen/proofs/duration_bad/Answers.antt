use borrow.Author.Rules.{of_calls}
use Rattle.data.specs.Limits.{duration_ok}
use Rattle.image_screen.proofs.duration_bad.Goals as goal

pub returns : goal.returns
returns c = c.double_in_bad.ensures duration_ok (λ r p. search of_calls)
