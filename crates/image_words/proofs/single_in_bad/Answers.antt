use borrow.Author.Rules.{of_calls}
use Rattle.image_words.proofs.Laws.{single_both}
use lib.ListN.{get_or}
use Rattle.image.specs.Codes.{single_ok}
use Rattle.image_words.proofs.single_in_bad.Goals as goal

pub returns : goal.returns
returns g c = λ p law. c.one.ensures (single_ok p) (λ r e. search (of_calls, law, single_both p (get_or c.args.words.now c.args.at 0)))
