use mathlib.Core.Path.{◌≡◌}
use lib.ListN.{take}
use Rattle.model.specs.Numbers.{one}
use Rattle.model.specs.Pass.{zoom_of}
use Rattle.event_loop.specs.Lists.{listed_events}
use Rattle.zoom_and_rotation.proofs.zoom_of.Given as goal

abbrev pub invariant-loop-at : goal.invariant-loop-at
invariant-loop-at l = l.factor ≡ zoom_of (listed_events l.feed (take l.at-index l.places)) one
