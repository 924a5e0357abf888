use native.Mathlib.Omega.{arith}
use Rattle.model.specs.Interact.{insert_some}
use Rattle.id_set.proofs.Written.{kept}
use Rattle.id_set.proofs.insert_some.Goals as goal

pub returns-in-None : goal.returns-in-None
unfolding insert_some
returns-in-None c =
    let a = c.args in
    rw c.in-None.is (kept a.count a.ids.now (omega arith))

pub returns-in-Some : goal.returns-in-Some
unfolding insert_some
returns-in-Some c = rw c.in-Some.is c.insert_id.ensures
