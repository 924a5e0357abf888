use mathlib.Core.Path.{◌≡◌}
use Prim.Native.Nat.{◌-◌}
use Rattle.trace_words.specs.Words.{held, put_words, zero_words}
use Rattle.trace_words.proofs.words.Answer.zeros.Given as goal

-- what is still to be written, after what is
abbrev pub invariant-loop : goal.invariant-loop
invariant-loop l = put_words (zero_words (l.k - l.counter)) (held l.self) ≡ put_words (zero_words l.k) (held l.initial.self)
