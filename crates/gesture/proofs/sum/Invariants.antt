use mathlib.Core.Path.{◌≡◌}
use lib.ListN.{drop}
use Rattle.model.specs.Touch.{sum_force, sum_pos}
use Rattle.gesture.proofs.sum.Given as goal

abbrev pub invariant-loop-t : goal.invariant-loop-t
invariant-loop-t l = (sum_force l.force (drop l.t-index l.t-items) ≡ sum_force l.initial.force l.t-items) × (sum_pos l.pos (drop l.t-index l.t-items) ≡ sum_pos l.initial.pos l.t-items)
