use mathlib.Core.Path.{◌∙◌}
use native.Mathlib.Omega.{arith}
use Rattle.image_events.proofs.Rows.{put_all, in_events}
use Rattle.image_events.proofs.events_put.Goals as goal

pub returns : goal.returns
returns c =
    let a = c.args in
    let n = c.counted-n.ensures in (
      c.rows_put.ensures.0 ∙ put_all a.from.codes.now a.from.positions.now a.out.now a.at _ a.count n,
      in_events a.from.codes.now a.from.positions.now _ a.count n (omega arith) c.rows_put.ensures.1,
    )
