use Rattle.image_events.proofs.Rows.{put_none, each_none, put_more, each_event}
use mathlib.Core.Path.{◌∙◌}
use native.Mathlib.Omega.{arith}
use Rattle.image_events.proofs.rows_put.Goals as goal

pub loop-i-init : goal.loop-i-init
loop-i-init c = (omega arith, put_none _ _ _ _, each_none _ _)

pub loop-i-preserved : goal.loop-i-preserved
loop-i-preserved c =
    let l = c.loop-i in
    let a = c.args in (
      omega arith,
      c.copy.ensures ∙ rw (l.invariant.1, c.event_words-part.ensures.0, c.event_of.ensures, c.entry_at-x.ensures) (put_more a.from.codes.now a.from.positions.now a.out.now a.at l.i),
      each_event a.from.codes.now a.from.positions.now l.i l.invariant.2 (rw (c.event_of.ensures, c.entry_at-x.ensures) at c.event_words-part.ensures.1),
    )
