use mathlib.Core.Path.{sym}
use borrow.Author.Tests.{le-ltb}
use Rattle.id_set.proofs.Insert.{there, not_there}
use Rattle.id_set.proofs.stands_at.Goals as goal

pub returns-then-at-count : goal.returns-then-at-count
returns-then-at-count c = sym (there _ _ c.requires _ _ c.if-at-count.true)

pub returns-else-at-count : goal.returns-else-at-count
returns-else-at-count c = rw (not_there _ _ c.requires _ c.args.at c.if-at-count.false) (le-ltb _ _ c.if-at-count.false)
