use Rattle.std.proofs.Common.{◌≡◌, ◌≤◌, replicate}
use Rattle.data.specs.Limits.{max_touches}
use Rattle.host_touch.specs.Device.{touch_at}
use Rattle.host_touch.proofs.Back.{read_to}
use Rattle.host_touch.proofs.touches_held.Given as goal

abbrev pub invariant-loop-i : goal.invariant-loop-i
invariant-loop-i l =
    (l.i ≤ max_touches)
    × (l.places ≡ read_to l.i l.ids l.floats l.flags (replicate 10 (touch_at l.ids l.floats l.flags 0)))
