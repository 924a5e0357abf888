use Prim.Native.Nat.{◌≤◌}
use mathlib.Core.Path.{◌≡◌}
use lib.ListN.{length}
use Rattle.data.specs.Limits.{max_touches}
use Rattle.touches.proofs.Removal.{kept as held}
use Rattle.touches.proofs.remove.Given as goal

abbrev pub invariant-loop-i : goal.invariant-loop-i
invariant-loop-i l =
    (l.kept ≤ l.i) × (l.i ≤ l.n) × (l.n ≤ max_touches) × (length l.s.places ≡ max_touches) × (held l.id l.n l.s.places l.kept l.i ≡ held l.id l.n l.initial.s.places 0 0)
