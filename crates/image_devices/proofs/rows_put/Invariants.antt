use Prim.Native.Nat.{◌≤◌, ◌*◌}
use mathlib.Core.Path.{◌≡◌}
use lib.ListN.{length}
use lib.Seq.{sets}
use Rattle.image_devices.proofs.Rows.{written, EachIn}
use Rattle.image_devices.proofs.rows_put.Given as goal

abbrev pub invariant-loop-i : goal.invariant-loop-i
invariant-loop-i l = (l.i ≤ l.n) × (l.out ≡ sets l.initial.out l.at (written l.places l.i)) × EachIn l.places l.i × (length (written l.places l.i) ≡ l.i * 86)
