use Rattle.image_keys.specs.Keys.{press_code}
use Rattle.image.specs.Codes.{In, Each}
use lib.Seq.{sets}
use lib.ListN.{length, take}
use mathlib.Core.Path.{◌≡◌}
use Prim.Native.Nat.{◌≤◌}
use Rattle.image_keys.proofs.presses.presses_put.Given as goal

abbrev pub invariant-loop-i : goal.invariant-loop-i
invariant-loop-i l = (l.i ≤ length l.presses) × (l.out ≡ sets l.initial.out l.at (take l.i l.presses)) × Each (In press_code) (take l.i l.presses)
