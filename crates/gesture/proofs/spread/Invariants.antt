use mathlib.Core.Path.{◌≡◌}
use lib.ListN.{drop}
use Rattle.model.specs.Touch.{sum_distance, sum_abs_distance2}
use Rattle.gesture.proofs.spread.Given as goal

abbrev pub invariant-loop-t : goal.invariant-loop-t
invariant-loop-t l = (sum_distance l.center l.distance (drop l.t-index l.t-items) ≡ sum_distance l.center l.initial.distance l.t-items) × (sum_abs_distance2 l.center l.abs_distance2 (drop l.t-index l.t-items) ≡ sum_abs_distance2 l.center l.initial.abs_distance2 l.t-items)
