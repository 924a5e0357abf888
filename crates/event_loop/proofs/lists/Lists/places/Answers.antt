use Rattle.event_loop.specs.Lists.{listed}
use Rattle.event_loop.proofs.lists.Lists.places.Goals as goal

pub returns-clause-listed : goal.returns-clause-listed
unfolding listed
returns-clause-listed c = rw c.number-list.ensures.number
