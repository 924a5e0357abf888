use Rattle.std.proofs.Common.{◌-◌, length}
use Rattle.trace_events.proofs.events.fold_events.Given as goal

abbrev pub invariant-loop-from : goal.invariant-loop-from
invariant-loop-from g l = goal.F-IsAlwaysCallable g l.step

abbrev pub decreases-loop-from : goal.decreases-loop-from
decreases-loop-from g l = length l.feed - l.from
