use mathlib.Core.Path.{◌≡◌}
use lib.ListN.{length}
use native.Mathlib.Omega.{arith}
use Rattle.model.specs.Pass.{set_key}
use Rattle.key_state.proofs.Members.{member}
use Rattle.key_state.specs.Bits.{has, with_member}
use borrow.Author.Tests.{le-ltb, lt-ltb}
use borrow.Author.Rules.{rules}
use Rattle.key_state.proofs.bits.set.Goals as goal

pub returns-then-k-lt256 : goal.returns-then-k-lt256
unfolding has with_member set_key
returns-then-k-lt256 c j =
    let l : length c.args.s.words ≡ 4 = search rules in
    rw (lt-ltb _ 256 c.if-k-lt256.true, c.word_with.ensures) (member c.args.s.words _ j _ (omega arith))

pub returns : goal.returns
unfolding with_member
returns c j = rw (le-ltb _ 256 c.if-k-lt256.false)
