use lib.ListN.{length, take}
use Rattle.image_touches.specs.Touches.{touch_code, touches_of}
use Rattle.image.specs.Places.{value_at, rows_at, key_at}
use mathlib.Core.Path.{◌≡◌}
use Prim.Native.Nat.{◌≤◌, ◌+◌}
use Rattle.image_touches.proofs.touches_at.Given as goal

abbrev pub invariant-loop-i : goal.invariant-loop-i
invariant-loop-i l = (l.i ≤ l.n) × (length l.ts.places ≡ 10) × (take l.i l.ts.places ≡ touches_of (rows_at 6 (key_at (value_at touch_code)) l.i l.words (l.at + 1)))
