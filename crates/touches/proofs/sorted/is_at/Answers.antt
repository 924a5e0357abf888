use mathlib.Core.Path.{ap, sym, ◌∙◌}
use borrow.Author.Tests.{le-ltb}
use lib.Dec.{eqb}
use Rattle.touches.proofs.Upsert.{at_yes, at_no}
use Rattle.touches.proofs.sorted.is_at.Goals as goal

pub returns-then-i-items : goal.returns-then-i-items
returns-then-i-items g c =
    ap (eqb c.args.id) (c.id.ensures ∙ ap g.T.HasId.id_of c.index-items-i.is) ∙ sym (at_yes g.T.HasId.id_of _ c.args.i _ c.index-items-i.result c.if-i-items.true)

pub returns-else-i-items : goal.returns-else-i-items
returns-else-i-items g c = rw (at_no g.T.HasId.id_of c.args.id _ _ c.if-i-items.false) (le-ltb _ _ c.if-i-items.false)
