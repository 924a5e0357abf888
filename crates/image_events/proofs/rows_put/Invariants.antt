use Rattle.image_events.proofs.Rows.{written, EachIn}
use Prim.Native.Nat.{◌≤◌}
use lib.Seq.{sets}
use mathlib.Core.Path.{◌≡◌}
use Rattle.image_events.proofs.rows_put.Given as goal

abbrev pub invariant-loop-i : goal.invariant-loop-i
invariant-loop-i l = (l.i ≤ l.n) × (l.out ≡ sets l.initial.out l.at (written l.from.codes.now l.from.positions.now l.i)) × EachIn l.from.codes.now l.from.positions.now l.i
