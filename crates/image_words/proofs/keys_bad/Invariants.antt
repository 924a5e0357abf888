use Prim.Native.Nat.{ℕ, ◌+◌, ◌*◌, ◌-◌}
use mathlib.Core.Path.{◌≡◌}
use mathlib.Core.List.{List, []}
use Rattle.std.specs.Prelude.{Option, Result, ⊤}
use Rattle.image.specs.Places.{or_else, two_bad, keys_bad}
use Rattle.image_words.specs.Leaves.{found, ascending, seen_of}
use Rattle.image_words.proofs.keys_bad.Given as goal

abbrev pub invariant-loop-i : goal.invariant-loop-i
invariant-loop-i g l = (f : List ℕ → ℕ → Option ℕ)
    → ((i : ℕ) (before : Option ℕ) (r : Result ⊤ ℕ) → goal.F-post g l.entry i before r → found r ≡ or_else (two_bad (ascending (seen_of before)) l.words i) (f l.words (i + 2)))
    → keys_bad l.after ascending f l.n [] l.words l.at ≡ keys_bad l.after ascending f (l.n - l.i) (seen_of l.before) l.words (l.at + l.i * (2 + l.after))
