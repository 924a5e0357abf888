use mathlib.Core.Path.{◌≡◌}
use lib.ListN.{take}
use Rattle.model.specs.Wheel.{wheel_events}
use Rattle.event_loop.specs.Lists.{listed_events}
use Rattle.wheel_loop.proofs.wheel_events.Given as goal

abbrev pub invariant-loop-at : goal.invariant-loop-at
invariant-loop-at l = l.v ≡ wheel_events l.by.viewport_rect l.by.options l.by.time (listed_events l.feed (take l.at-index l.places)) l.initial.v
