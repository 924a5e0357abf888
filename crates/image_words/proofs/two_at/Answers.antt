use Rattle.image.specs.Places.{two_at}
use Rattle.image_words.proofs.Laws.{two_none}
use native.Mathlib.Numerals.{add-one}
use Rattle.image_words.proofs.two_at.Goals as goal

pub returns-then-at-words : goal.returns-then-at-words
unfolding two_at
returns-then-at-words c = rw (c.word_at.ensures, add-one)

pub returns : goal.returns
returns c = two_none _ _ c.if-at-words.false
