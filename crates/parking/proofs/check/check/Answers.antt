use borrow.Author.Rules.{rules}
use borrow.Author.Tests.{eq-eqb, ne_eqb}
use mathlib.Core.Path.{sym, ◌∙◌}
use Rattle.parking.proofs.Whole.{is_checked}
use Rattle.parking.proofs.check.check.Goals as goal

pub returns-then-word_at-ne-FIRST_WORD : goal.returns-then-word_at-ne-FIRST_WORD
returns-then-word_at-ne-FIRST_WORD c = ne_eqb _ _ (λ e. c.if-word_at-ne-FIRST_WORD.true (e ∙ sym c.word_at.ensures))

pub returns : goal.returns
returns c =
    is_checked _ c.groups_bad.result c.map_err.result c.args.words.now (λ i d e. search rules) (eq-eqb _ _ (c.if-word_at-ne-FIRST_WORD.false ∙ c.word_at.ensures)) c.groups_bad.ensures c.map_err.ensures.cases
