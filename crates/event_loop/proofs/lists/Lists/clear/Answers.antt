use Rattle.event_loop.specs.Lists.{listed}
use Rattle.event_loop.proofs.Rows.{zeros}
use Rattle.event_loop.proofs.lists.Lists.clear.Goals as goal

pub returns : goal.returns
unfolding listed
returns c l = rw (zeros l)
