use Prim.Native.Nat.{◌≤◌, ◌*◌}
use mathlib.Core.Path.{◌≡◌}
use lib.ListN.{length}
use Rattle.image_devices.proofs.Rows.{written}
use Rattle.image_devices.proofs.rows_words.Given as goal

abbrev pub invariant-loop-i : goal.invariant-loop-i
invariant-loop-i l = (l.i ≤ l.n) × (l.words ≡ l.i * 86) × (length (written l.places l.i) ≡ l.i * 86)
