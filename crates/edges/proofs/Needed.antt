use mathlib.Core.Path.{refl}
use Rattle.edges.specs.Needed.{Needed}
use Rattle.edges.proofs.Opened.{opened}

pub needed : Needed
unfolding opened
needed = record { each_part = refl; wait = refl; cleared = refl }
