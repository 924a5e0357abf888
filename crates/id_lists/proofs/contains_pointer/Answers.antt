use native.Mathlib.Omega.{arith}
use Rattle.model.specs.Interact.{insert_hits, contains_pointer_of}
use Rattle.hit_refusals.specs.Refusals.{input}
use Rattle.id_set.proofs.Written.{then_by}
use Rattle.id_lists.proofs.Walks.{hits_more, after_two}
use Rattle.id_lists.proofs.contains_pointer.Goals as goal

pub insert_hits-requires : goal.insert_hits-requires
insert_hits-requires c = omega (arith, after_two _ _ _ _ _ c.insert_both-r.ensures)

pub returns : goal.returns
unfolding contains_pointer_of input
returns c = then_by _ _ _ _ c.insert_both-r.ensures (insert_hits _) (hits_more _) _ _ c.insert_hits.ensures
