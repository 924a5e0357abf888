use Rattle.id_set.proofs.Insert.{found_at}
use Rattle.id_set.proofs.place_of.Goals as goal

pub returns : goal.returns
returns c = let a = c.args in rw (c.unwrap_or.ensures, c.find_from.ensures) (found_at a.id a.count a.ids.now c.requires)
