use mathlib.Core.Path.{◌≡◌}
use Rattle.trace_words.proofs.Bits.{Counting}
use Rattle.trace_words.proofs.words.Answer.bits.Given as goal

abbrev pub invariant-loop-b : goal.invariant-loop-b
invariant-loop-b l = (l.self ≡ l.initial.self) × Counting l.flags l.b-iterator.iter.rest.now l.w
