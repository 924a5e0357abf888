use Rattle.image_history.specs.History.{sample_code, history_el}
use Rattle.emath_history.specs.Ring.{samples}
use Rattle.image.specs.Codes.{In, Each}
use Rattle.image_history.proofs.Fill.{written}
use Prim.Native.Nat.{◌≤◌}
use lib.Seq.{sets}
use mathlib.Core.Path.{◌≡◌}
use Rattle.image_history.proofs.samples_put.Given as goal

abbrev pub invariant-loop-i : goal.invariant-loop-i
invariant-loop-i l = (l.i ≤ l.n) × (l.out ≡ sets l.initial.out l.at (written l.ring.times.now l.ring.positions.now l.start l.i)) × Each (In sample_code) (history_el (samples l.ring.times.now l.ring.positions.now l.start l.i))
