use Prim.Native.Nat.{◌-◌}
use mathlib.Core.Path.{◌≡◌}
use mathlib.Core.List.{List}
use lib.Ieee.{Float}
use Rattle.model.specs.Interact.{InteractInput, pointer_events}
use Rattle.pointer_events.specs.Events.{events_from, events}
use Rattle.interaction_events.specs.View.{going_of, Looks}
use Rattle.interaction_events.proofs.pointer_events.Given as goal

abbrev pub invariant-loop-i : goal.invariant-loop-i
invariant-loop-i l = ((ps : List Float) (x : InteractInput) → Looks x l.table.set l.table.words.now l.table.numbers.now l.hits.click l.hits.drag → pointer_events x l.dragging (events_from l.codes ps l.i (l.i-end - l.i)) (going_of l.h) ≡ pointer_events x l.dragging (events l.codes ps l.count) (going_of l.initial.h))
