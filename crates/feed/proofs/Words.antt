-- The words after a place of a feed, by their places in the feed. Assumes nothing.
use mathlib.Core.Path.{◌≡◌, ap, ◌∙◌}
use mathlib.Core.List.{List}
use Prim.Native.Nat.{ℕ, suc, ◌+◌}
use native.Mathlib.Omega.{arith}
use lib.ListN.{get_or, drop}
use lib.Seq.{get_or-drop}

pub word_after : (ws : List ℕ) (at i : ℕ) → get_or (drop (suc at) ws) i 0 ≡ get_or ws (at + (i + 1)) 0
word_after ws at i = get_or-drop (suc at) ws i 0 ∙ ap (λ (j : ℕ). get_or ws j 0) (omega arith)
