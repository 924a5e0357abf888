use mathlib.Core.Path.{sym}
use Rattle.model.specs.Touch.{center}
use Rattle.gesture.proofs.Averages.{few, many_at, around}
use Rattle.gesture.proofs.calc_dynamic_state.Goals as goal

pub returns-then-n-lt2 : goal.returns-then-n-lt2
returns-then-n-lt2 c = sym (few _ (rw c.len-n.ensures at c.if-n-lt2.true))

pub returns : goal.returns
unfolding around center
returns c = rw (c.sub-heading.ensures, c.spread-away.ensures, c.sum-total.ensures, c.recip-r.ensures, c.len-n.ensures) (many_at c.args.ts.count c.args.ts.places _ (rw c.len-n.ensures at c.if-n-lt2.false))
