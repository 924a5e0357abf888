use Rattle.hit_lists.proofs.Walk.{seek_found, entries_left}
use Rattle.hit_lists.proofs.seek.Goals as goal

pub returns : goal.returns
returns c = rw (c.unwrap_or.ensures, c.position.ensures, c.max.ensures) (seek_found _ _ _ _ (entries_left _ _))
