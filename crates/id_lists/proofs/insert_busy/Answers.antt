use native.Mathlib.Omega.{arith}
use Rattle.model.specs.Interact.{insert_some}
use Rattle.id_set.proofs.Insert.{some_more}
use Rattle.id_set.proofs.Written.{then_by}
use Rattle.id_lists.proofs.Walks.{after_some, after_two}
use Rattle.id_lists.proofs.insert_busy.Goals as goal

pub insert_some-s-requires : goal.insert_some-s-requires
insert_some-s-requires c = omega (arith, after_some _ _ _ _ _ c.insert_some-r.ensures)

pub insert_some-requires : goal.insert_some-requires
insert_some-requires c =
    omega (arith, after_two _ _ _ _ _ (then_by _ _ _ _ c.insert_some-r.ensures (insert_some _) (λ t. (some_more _ t).0) _ _ c.insert_some-s.ensures))

pub returns : goal.returns
returns c =
    then_by _ _ _ _ (then_by _ _ _ _ c.insert_some-r.ensures (insert_some _) (λ t. (some_more _ t).0) _ _ c.insert_some-s.ensures)
    (insert_some _) (λ t. (some_more _ t).0) _ _ c.insert_some.ensures
