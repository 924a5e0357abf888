use Rattle.image_history.specs.History.{sample_code, history_of}
use Rattle.image.specs.Places.{value_at, rows_at}
use Rattle.emath_history.specs.Ring.{samples}
use lib.ListN.{drop}
use mathlib.Core.Path.{◌≡◌}
use Prim.Native.Nat.{◌≤◌, ◌*◌}
use Rattle.image_history.proofs.samples_at.Given as goal

abbrev pub invariant-loop-i : goal.invariant-loop-i
invariant-loop-i l =
    (l.i ≤ l.n) × (samples l.times l.positions 0 l.i ≡ history_of (rows_at 4 (value_at sample_code) l.i l.words l.at))
    × (drop l.i l.times ≡ drop l.i l.initial.times) × (drop (l.i * 2) l.positions ≡ drop (l.i * 2) l.initial.positions)
