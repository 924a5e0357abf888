use borrow.Author.Rules.{of_calls}
use Rattle.std.specs.Prelude.{None, Some}
use Rattle.image_words.specs.Leaves.{ascending, seen_of}
use Rattle.image_words.proofs.key_bad.Goals as goal

pub returns-in-None : goal.returns-in-None
unfolding ascending seen_of
returns-in-None c = rw c.in-None.is (c.two.ensures (ascending (seen_of None)) (λ r p. search of_calls))

pub returns-in-Some : goal.returns-in-Some
unfolding ascending seen_of
returns-in-Some c = rw c.in-Some.is (c.two-in-Some.ensures (ascending (seen_of (Some c.in-Some.b))) (λ r p. search of_calls))
