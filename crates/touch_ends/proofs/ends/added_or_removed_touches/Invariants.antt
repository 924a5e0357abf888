use mathlib.Core.Path.{◌≡◌}
use mathlib.Core.Bool.{false}
use lib.ListN.{take}
use Rattle.model.specs.Touch.{added_or_removed_touches}
use Rattle.event_loop.specs.Lists.{listed_events}
use Rattle.touch_ends.proofs.ends.added_or_removed_touches.Given as goal

abbrev pub invariant-loop-at : goal.invariant-loop-at
invariant-loop-at l = added_or_removed_touches l.device_id (listed_events l.feed (take l.at-index l.places)) ≡ false
