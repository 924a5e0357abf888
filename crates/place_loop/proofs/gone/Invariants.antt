use mathlib.Core.Path.{◌≡◌}
use mathlib.Core.Bool.{false}
use lib.ListN.{take}
use Rattle.model.specs.Pointer.{clear_history_after}
use Rattle.event_loop.specs.Lists.{listed_events}
use Rattle.place_loop.proofs.gone.Given as goal

abbrev pub invariant-loop-at : goal.invariant-loop-at
invariant-loop-at l = clear_history_after (listed_events l.feed (take l.at-index l.places)) ≡ false
