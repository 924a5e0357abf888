use lib.ListN.{get_or}
use Rattle.image_words.specs.Leaves.{upto}
use Rattle.image_words.proofs.Laws.{passed}
use borrow.Author.Tests.{leb-true}
use native.Mathlib.Omega.{arith}
use Rattle.image_words.proofs.count_at.Goals as goal

pub returns : goal.returns
returns c = (
  omega arith,
  λ e.
      let a = c.args in
      let m = leb-true (get_or a.words.now a.at 0) a.most (passed (upto a.most) a.words.now a.at e) in
      absurd (omega (arith, m, c.word_at-n.ensures, c.if-n-most.false)),
)
