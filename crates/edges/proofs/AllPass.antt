use mathlib.Core.Path.{refl}
use Rattle.edges.specs.Table.{AllPass}
use Rattle.edges.proofs.Opened.{opened}

pub all_pass : AllPass
unfolding opened
all_pass = refl
