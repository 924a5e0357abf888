use mathlib.Core.Path.{sym}
use Rattle.widget_rect.proofs.Settle.{nothing_settled, settles}
use Rattle.widget_rect.proofs.slice.settle.Goals as goal

pub returns-then-to-from : goal.returns-then-to-from
returns-then-to-from c = sym (nothing_settled c.args.from c.args.to c.args.w c.args.s.now c.if-to-from.true)

pub returns : goal.returns
returns c = rw c.copy_within.ensures.after (settles c.args.from c.args.to c.args.w c.args.s.now c.if-to-from.false c.requires)
