use mathlib.Core.Path.{sym, ◌∙◌}
use Rattle.hit_lists.proofs.Walk.{found_here, found_later, not_found}
use Rattle.hit_lists.proofs.position.Goals as goal

pub returns-then-id-words : goal.returns-then-id-words
returns-then-id-words c = sym (found_here _ _ _ c.loop-at-test.true c.if-id-words.true) ∙ c.loop-at.invariant

pub loop-at-preserved : goal.loop-at-preserved
loop-at-preserved c = sym (found_later _ _ _ c.loop-at-test.true c.if-id-words.false) ∙ c.loop-at.invariant

pub returns : goal.returns
returns c = sym (not_found _ _ _ c.loop-at-test.false) ∙ c.loop-at.invariant
