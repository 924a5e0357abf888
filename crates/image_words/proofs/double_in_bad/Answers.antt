use borrow.Author.Rules.{of_calls}
use Rattle.image_words.proofs.Laws.{double_both}
use Rattle.image.specs.Codes.{double_ok}
use Rattle.image.specs.Places.{two_at}
use Rattle.image_words.proofs.double_in_bad.Goals as goal

pub returns : goal.returns
returns g c = λ p law. c.two.ensures (double_ok p) (λ r e. search (of_calls, law, double_both p (two_at c.args.words.now c.args.at)))
