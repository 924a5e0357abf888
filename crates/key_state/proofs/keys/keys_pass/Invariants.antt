use Prim.Native.Nat.{ℕ, ◌≤◌}
use mathlib.Core.Path.{◌≡◌}
use lib.ListN.{length, take}
use Rattle.model.specs.Pass.{key_events}
use Rattle.event_loop.specs.Lists.{listed_events}
use Rattle.key_state.specs.View.{presses_of, keys}
use Rattle.key_state.proofs.keys.keys_pass.Given as goal

-- a byte is enough so far, the model's steps are made, and there are as many places as before
abbrev pub invariant-loop-at : goal.invariant-loop-at
invariant-loop-at l =
    ((j : ℕ) → presses_of l.presses j ≤ l.at-index)
    × (keys l.presses l.s ≡ key_events (listed_events l.feed (take l.at-index l.places)) (keys l.initial.presses l.initial.s))
    × (length l.presses ≡ length l.initial.presses)
