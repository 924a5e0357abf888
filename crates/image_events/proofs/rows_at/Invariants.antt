use Prim.Native.Nat.{◌≤◌}
use Rattle.image.specs.Places.{value_at, rows_at}
use Rattle.image_events.specs.Events.{event_code, events_of_el, Stored}
use Rattle.image_events.proofs.rows_at.Given as goal

abbrev pub invariant-loop-i : goal.invariant-loop-i
invariant-loop-i l = (l.i ≤ l.n) × Stored (events_of_el (rows_at 6 (value_at event_code) l.i l.words l.at)) l.initial.codes l.initial.positions l.count l.codes l.positions
