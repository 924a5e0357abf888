-- The invariant: what is sought is among all the events exactly if it is among those from `i` on.
use Prim.Native.Nat.{◌≤◌}
use mathlib.Core.Path.{◌≡◌}
use mathlib.Core.List.{List}
use mathlib.Core.Bool.{Bool}
use lib.Ieee.{Float}
use Rattle.data.specs.Limits.{max_events}
use Rattle.model.specs.Types.{PointerEvent}
use Rattle.model.specs.Pointer.{any}
use Rattle.pointer_events.specs.Events.{events, Tests}
use Rattle.pointer_events.proofs.Stored.{rest}
use Rattle.pointer_events.proofs.any.Given as goal

abbrev pub invariant-loop-i : goal.invariant-loop-i
invariant-loop-i g l =
    (l.i ≤ l.n) × (l.n ≤ max_events) × ((f : PointerEvent → Bool) → Tests (goal.F-post g l.test) f → (ps : List Float) → rest f l.codes ps l.n l.i ≡ any f (events l.codes ps l.count))
