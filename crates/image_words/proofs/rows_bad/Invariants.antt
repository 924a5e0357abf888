use Prim.Native.Nat.{ℕ, ◌+◌, ◌*◌, ◌-◌}
use mathlib.Core.Path.{◌≡◌}
use mathlib.Core.List.{List}
use Rattle.std.specs.Prelude.{Option, Result, ⊤}
use Rattle.image.specs.Places.{rows_bad}
use Rattle.image_words.specs.Leaves.{found}
use Rattle.image_words.proofs.rows_bad.Given as goal

abbrev pub invariant-loop-i : goal.invariant-loop-i
invariant-loop-i g l = (f : List ℕ → ℕ → Option ℕ) (ws : List ℕ) → ((i : ℕ) (r : Result ⊤ ℕ) → goal.F-post g l.row i r → found r ≡ f ws i)
    → rows_bad l.size f l.n ws l.at ≡ rows_bad l.size f (l.n - l.i) ws (l.at + l.i * l.size)
