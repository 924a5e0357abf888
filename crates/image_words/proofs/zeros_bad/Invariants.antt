use Rattle.image.specs.Places.{zeros_bad}
use mathlib.Core.Path.{◌≡◌}
use Prim.Native.Nat.{◌+◌, ◌-◌, ◌≤◌, ◌<◌}
use lib.ListN.{length}
use Rattle.image_words.proofs.zeros_bad.Given as goal

abbrev pub invariant-loop-i : goal.invariant-loop-i
invariant-loop-i l = (zeros_bad l.n l.words l.at ≡ zeros_bad (l.n - l.i) l.words (l.at + l.i)) × (0 < l.i → l.at + l.i ≤ length l.words)
