use Rattle.emath_history.proofs.Samples.{Dropping}
use Rattle.emath_history.proofs.history.History.flush.Given as goal

abbrev pub invariant-loop-len : goal.invariant-loop-len
invariant-loop-len l = Dropping l.limit l.times l.initial.start l.initial.len l.start l.len

abbrev pub decreases-loop-len : goal.decreases-loop-len
decreases-loop-len l = l.len
