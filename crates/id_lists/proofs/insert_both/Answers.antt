use mathlib.Core.Path.{◌≡◌}
use native.Mathlib.Omega.{arith}
use Rattle.model.specs.Interact.{insert_some, hit_id}
use Rattle.hit_lists.specs.Hits.{view}
use Rattle.id_set.proofs.Insert.{some_more}
use Rattle.id_set.proofs.Written.{then_by}
use Rattle.id_lists.proofs.Walks.{after_some}
use Rattle.id_lists.proofs.insert_both.Goals as goal

pub insert_some-requires : goal.insert_some-requires
insert_some-requires c = omega (arith, after_some _ _ _ _ _ c.insert_some-r.ensures)

pub returns : goal.returns
returns c =
    let drag : c.hit_id.result ≡ hit_id (view c.args.drag) = c.hit_id.ensures in
    let click : c.hit_id-2.result ≡ hit_id (view c.args.click) = c.hit_id-2.ensures in
    rw (← click, ← drag)
    (then_by _ _ _ _ c.insert_some-r.ensures (insert_some _) (λ t. (some_more _ t).0) _ _ c.insert_some.ensures)
