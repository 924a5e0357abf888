use Prim.Native.Nat.{◌-◌}
use Rattle.data.specs.Limits.{max_events}
use Rattle.survey.proofs.Places.{Reads}
use Rattle.survey.proofs.reading.read.Given as goal

abbrev pub invariant-loop-n : goal.invariant-loop-n
invariant-loop-n l = Reads l.feed (max_events - l._n) l._n l.at l.lists
