use Rattle.image_words.specs.Leaves.{found}
use Rattle.image_words.proofs.Laws.{one_good, one_wrong, one_missing}
use mathlib.Core.Path.{sym, ◌∙◌}
use Rattle.image_words.proofs.one.Goals as goal

pub returns-then-test : goal.returns-then-test
unfolding found
returns-then-test g c = λ p law. one_good p _ _ c.if-at-words.true (sym c.if-test.true ∙ law _ c.test.ensures)

pub returns-else-test : goal.returns-else-test
unfolding found
returns-else-test g c = λ p law. one_wrong p _ _ (sym c.if-test.false ∙ law _ c.test.ensures)

pub returns-else-at-words : goal.returns-else-at-words
unfolding found
returns-else-at-words g c = λ p law. one_missing p _ _ c.if-at-words.false
