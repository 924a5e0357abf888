use native.Mathlib.Omega.{arith}
use mathlib.Core.Path.{◌≡◌}
use lib.ListN.{length}
use Rattle.image.specs.Places.{value_at, rows_at}
use Rattle.image_events.specs.Events.{event_code, events_of_el}
use Rattle.image_events.proofs.Rows.{rows_none, rows_count, rows_more, store_more}
use Rattle.image_events.proofs.rows_at.Goals as goal

pub loop-i-init : goal.loop-i-init
loop-i-init c = (omega arith, rows_none _ _ _ _)

pub loop-i-preserved : goal.loop-i-preserved
loop-i-preserved c =
    let l = c.loop-i in
    let a = c.args in
    let es = events_of_el (rows_at 6 (value_at event_code) l.i a.words.now a.at) in
    let k : length es ≡ l.i = rows_count a.words.now l.i a.at in
    (omega arith, rw (rows_more a.words.now l.i a.at, ← c.event_at-e.ensures) (store_more es a.codes.now a.positions.now l.invariant.1 c.push-count.ensures (omega arith)))
