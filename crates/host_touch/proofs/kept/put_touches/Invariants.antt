use Rattle.std.proofs.Common.{◌≡◌, ◌≤◌}
use Rattle.data.specs.Limits.{max_touches}
use Rattle.host_touch.specs.Kept.{with_ids, with_touches, with_forces}
use Rattle.host_touch.proofs.kept.put_touches.Given as goal

abbrev pub invariant-loop-i : goal.invariant-loop-i
invariant-loop-i l =
    (l.i ≤ max_touches)
    × (l.ids ≡ with_ids l.i l.touches.places l.initial.ids)
    × (l.floats ≡ with_touches l.i l.touches.places l.initial.floats)
    × (l.flags ≡ with_forces l.i l.touches.places l.initial.flags)
