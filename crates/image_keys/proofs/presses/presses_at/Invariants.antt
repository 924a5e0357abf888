use Rattle.image_keys.specs.Keys.{press_code}
use Rattle.image.specs.Places.{value_at, rows_at}
use lib.ListN.{length, take}
use mathlib.Core.Path.{◌≡◌}
use Prim.Native.Nat.{◌≤◌}
use Rattle.image_keys.proofs.presses.presses_at.Given as goal

abbrev pub invariant-loop-i : goal.invariant-loop-i
invariant-loop-i l = (l.i ≤ length l.presses) × (length l.presses ≡ length l.initial.presses) × (take l.i l.presses ≡ rows_at 1 (value_at press_code) l.i l.words l.at)
