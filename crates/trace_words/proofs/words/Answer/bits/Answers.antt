use mathlib.Core.Path.{◌≡◌, refl}
use borrow.Author.Rules.{rules}
use Rattle.trace_words.proofs.Bits.{all_ahead, one_behind}
use Rattle.trace_words.proofs.words.Answer.bits.Goals as goal

pub loop-b-init : goal.loop-b-init
loop-b-init c =
    let all : c.into_iter-b-iterator.result.iter.rest.now ≡ c.args.flags.now = search rules in
    (refl, all_ahead _ _ all)

pub loop-b-preserved : goal.loop-b-preserved
loop-b-preserved c = (refl, one_behind _ _ _ _ _ _ c.in-Some.ensures.steps c.bit_number.ensures.0 c.loop-b.invariant.1)
