use Prim.Native.Nat.{suc, ◌+◌, ◌-◌}
use mathlib.Core.Path.{◌≡◌, ap, ◌∙◌}
use native.Mathlib.Omega.{arith}
use Rattle.trace_words.specs.Words.{Held, put_words, zero_words}
use Rattle.trace_words.proofs.Rows.{zero_more}
use Rattle.trace_words.proofs.words.Answer.zeros.Goals as goal

pub loop-preserved : goal.loop-preserved
loop-preserved c =
    let left = c.args.k - (c.loop.counter + 1) in
    let one : c.args.k - c.loop.counter ≡ suc left = omega (arith, c.loop-test.true) in
    ap (λ (h : Held). put_words (zero_words left) h) c.word.ensures.put ∙ zero_more left _ _ one ∙ c.loop.invariant
