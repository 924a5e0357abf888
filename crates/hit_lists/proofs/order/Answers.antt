use Rattle.model.specs.Interact.{order}
use Rattle.hit_lists.proofs.Walk.{order_found}
use Rattle.hit_lists.proofs.order.Goals as goal

pub returns : goal.returns
unfolding order
returns c = rw (c.unwrap_or.ensures, c.position.ensures) (order_found _ 0 _)
