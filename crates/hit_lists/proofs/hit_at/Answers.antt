use borrow.Author.Tests.{lt-ltb, le-ltb}
use Rattle.hit_lists.specs.Hits.{hit_at}
use Rattle.hit_lists.proofs.hit_at.Goals as goal

pub returns-then-at-words : goal.returns-then-at-words
unfolding hit_at
returns-then-at-words c = rw (lt-ltb _ _ c.if-at-words.true)

pub returns-else-at-words : goal.returns-else-at-words
unfolding hit_at
returns-else-at-words c = rw (le-ltb _ _ c.if-at-words.false)
