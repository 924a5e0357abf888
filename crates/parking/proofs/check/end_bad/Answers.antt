use borrow.Author.Tests.{lt-ltb, le-ltb}
use Rattle.image_words.specs.Leaves.{found}
use Rattle.parking.proofs.check.end_bad.Goals as goal

pub returns-then-at-words : goal.returns-then-at-words
unfolding found
returns-then-at-words c = rw (lt-ltb _ _ c.if-at-words.true)

pub returns : goal.returns
unfolding found
returns c = rw (le-ltb _ _ c.if-at-words.false)
