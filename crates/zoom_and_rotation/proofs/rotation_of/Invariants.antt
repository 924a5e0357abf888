use mathlib.Core.Path.{◌≡◌}
use lib.ListN.{take}
use Rattle.model.specs.Numbers.{+0}
use Rattle.model.specs.Pass.{rotation_of}
use Rattle.event_loop.specs.Lists.{listed_events}
use Rattle.zoom_and_rotation.proofs.rotation_of.Given as goal

abbrev pub invariant-loop-at : goal.invariant-loop-at
invariant-loop-at l = l.radians ≡ rotation_of (listed_events l.feed (take l.at-index l.places)) +0
