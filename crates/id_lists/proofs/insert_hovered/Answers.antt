use native.Mathlib.Omega.{arith}
use Rattle.model.specs.Interact.{insert_on_top}
use Rattle.id_set.proofs.Written.{then_by}
use Rattle.id_lists.proofs.Walks.{top_more, after_two}
use Rattle.id_lists.proofs.insert_hovered.Goals as goal

pub insert_on_top-requires : goal.insert_on_top-requires
insert_on_top-requires c = omega (arith, after_two _ _ _ _ _ c.insert_both-r.ensures)

pub returns : goal.returns
returns c = rw (← c.order_of.ensures, ← c.order_of-2.ensures, ← c.max-top.ensures)
    (then_by _ _ _ _ c.insert_both-r.ensures (insert_on_top _ _ _) (top_more _ _ _) _ _ c.insert_on_top.ensures)
