use borrow.Author.Rules.{of_calls}
use Rattle.image.specs.Codes.{table_ok}
use Rattle.image_words.proofs.Listing.bad.Goals as goal

pub returns : goal.returns
returns c = c.one.ensures (table_ok _ _ _) (λ r p. search of_calls)
