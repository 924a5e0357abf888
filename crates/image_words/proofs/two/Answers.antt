use Rattle.image_words.specs.Leaves.{found}
use Rattle.image_words.proofs.Laws.{two_good, two_wrong, two_cut, two_missing}
use mathlib.Core.Path.{sym, ◌∙◌}
use Rattle.image_words.proofs.two.Goals as goal

pub returns-then-test : goal.returns-then-test
unfolding found
returns-then-test g c = λ p law. two_good p _ _ c.if-at-words-2.true (sym c.if-test.true ∙ law _ (rw c.two_at.ensures at c.test.ensures))

pub returns-then-at-words-2 : goal.returns-then-at-words-2
unfolding found
returns-then-at-words-2 g c = λ p law. two_wrong p _ _ c.if-at-words-2.true (sym c.if-test.false ∙ law _ (rw c.two_at.ensures at c.test.ensures))

pub returns-then-at-words : goal.returns-then-at-words
unfolding found
returns-then-at-words g c = λ p law. two_cut p _ _ c.if-at-words.true c.if-at-words-2.false

pub returns : goal.returns
unfolding found
returns g c = λ p law. two_missing p _ _ c.if-at-words.false
