use Rattle.widget_append.specs.Append.{append}
use mathlib.Core.Path.{refl}
use Rattle.widget_append.proofs.append.Goals as goal

pub returns : goal.returns
unfolding append
returns c = record { decision = rw c.layers_after.ensures; words = refl; numbers = rw (c.put_traits.ensures, c.place-p.ensures.0, c.bucket-b.ensures.0, c.entry-e.ensures, c.head.ensures.0); edges = c.put_edges.ensures }
