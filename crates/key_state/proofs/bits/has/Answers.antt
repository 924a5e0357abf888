use mathlib.Core.Path.{sym}
use Rattle.key_state.specs.Bits.{has}
use Rattle.key_state.proofs.Members.{beyond}
use borrow.Author.Rules.{rules}
use Rattle.key_state.proofs.bits.has.Goals as goal

pub returns-then-k-lt256 : goal.returns-then-k-lt256
unfolding has
returns-then-k-lt256 c = c.bit.ensures

pub returns : goal.returns
returns c = sym (beyond _ _ (search rules) c.if-k-lt256.false)
