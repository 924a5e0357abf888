use lib.ListN.{take}
use Rattle.model.specs.Pointer.{place_events}
use Rattle.pointer_place.specs.View.{Placed}
use Rattle.event_loop.specs.Lists.{listed_events}
use Rattle.place_loop.proofs.place_events.Given as goal

abbrev pub invariant-loop-at : goal.invariant-loop-at
invariant-loop-at l = Placed (place_events (listed_events l.feed (take l.at-index l.places))) l.initial.s l.s
