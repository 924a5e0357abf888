use mathlib.Core.Path.{◌≡◌}
use lib.ListN.{drop}
use Rattle.trace_words.specs.Words.{held, put_words}
use Rattle.trace_words.proofs.words.Answer.all.Given as goal

-- what is still to be written, after what is
abbrev pub invariant-loop-w : goal.invariant-loop-w
invariant-loop-w l = put_words (drop l.w-index l.words) (held l.self) ≡ put_words l.words (held l.initial.self)
