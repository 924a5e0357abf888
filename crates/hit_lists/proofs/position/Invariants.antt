-- The invariant: the entries passed are of other ids.
use mathlib.Core.Path.{◌≡◌}
use Rattle.hit_lists.specs.Hits.{position_from}
use Rattle.hit_lists.proofs.Walk.{rest}
use Rattle.hit_lists.proofs.position.Given as goal

abbrev pub invariant-loop-at : goal.invariant-loop-at
invariant-loop-at l = position_from l.id l.at (rest l.words l.at) ≡ position_from l.id l.from (rest l.words l.from)
