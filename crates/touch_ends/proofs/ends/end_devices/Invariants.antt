use Prim.Native.Nat.{◌≤◌}
use mathlib.Core.Path.{◌≡◌}
use lib.ListN.{length}
use Rattle.event_loop.specs.Lists.{listed_events}
use Rattle.touch_ends.proofs.Ended.{ended}
use Rattle.touch_ends.proofs.ends.end_devices.Given as goal

abbrev pub invariant-loop-i : goal.invariant-loop-i
invariant-loop-i l =
    let es = listed_events l.feed l.places in
    (l.n ≤ length l.out.places) × (length l.out.places ≡ 4) × (l.out.count ≡ l.initial.out.count)
    × (ended l.time l.pointer_pos es l.n l.out.places l.i ≡ ended l.time l.pointer_pos es l.n l.initial.out.places 0)
