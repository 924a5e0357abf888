use borrow.Author.Rules.{of_calls}
use Rattle.image.specs.Places.{bad_at}
use Rattle.image_keys.specs.Keys.{press_code}
use Rattle.image_keys.proofs.presses.presses_bad.Goals as goal

pub returns : goal.returns
unfolding bad_at
returns c = c.rows_bad.ensures (bad_at press_code) c.args.words.now (λ i r p. search of_calls)
