use Rattle.hit_lists.proofs.Walk.{has_found}
use Rattle.hit_lists.proofs.has_hit.Goals as goal

pub returns : goal.returns
returns c = rw (c.is_some.ensures, c.position.ensures) (has_found _ 0 _)
