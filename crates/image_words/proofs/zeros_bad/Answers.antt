use Rattle.image_words.specs.Leaves.{found}
use Rattle.image_words.proofs.Laws.{zeros_missing, zeros_wrong, zeros_next, zeros_done}
use borrow.Author.Tests.{ne_eqb}
use mathlib.Core.Path.{sym, ◌∙◌}
use native.Mathlib.Omega.{arith}
use Rattle.image_words.proofs.zeros_bad.Goals as goal

pub returns-then-words-at : goal.returns-then-words-at
unfolding found
returns-then-words-at c = let l = c.loop-i in zeros_missing _ _ _ (omega arith) c.if-words-at.true ∙ sym l.invariant.0

pub returns-then-words-at-ne0 : goal.returns-then-words-at-ne0
unfolding found
returns-then-words-at-ne0 c = let l = c.loop-i in zeros_wrong _ _ _ (omega arith) (ne_eqb _ _ (λ e. c.if-words-at-ne0.true (sym e))) ∙ sym l.invariant.0

pub loop-i-preserved : goal.loop-i-preserved
loop-i-preserved c = let l = c.loop-i in (l.invariant.0 ∙ zeros_next _ _ _ _ c.loop-i-test.true c.if-words-at.false c.if-words-at-ne0.false, λ z. omega arith)

pub returns : goal.returns
unfolding found
returns c = zeros_done _ _ _ (omega arith) ∙ sym c.loop-i.invariant.0
