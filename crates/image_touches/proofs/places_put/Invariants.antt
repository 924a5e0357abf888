use Rattle.image_touches.proofs.Walk.{written, EachIn}
use lib.Seq.{sets}
use lib.ListN.{take}
use mathlib.Core.Path.{◌≡◌}
use Prim.Native.Nat.{◌≤◌}
use Rattle.image_touches.proofs.places_put.Given as goal

abbrev pub invariant-loop-i : goal.invariant-loop-i
invariant-loop-i l = (l.i ≤ l.n) × (l.out ≡ sets l.initial.out l.at (written l.places l.i)) × EachIn (take l.i l.places)
