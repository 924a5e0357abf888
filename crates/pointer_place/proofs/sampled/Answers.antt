use mathlib.Core.Path.{ap, ◌∙◌}
use Rattle.emath.specs.History.{flush}
use Rattle.model.specs.Pointer.{add_latest}
use Rattle.pointer_place.specs.View.{times_after, positions_after}
use Rattle.pointer_place.proofs.sampled.Goals as goal

pub returns-in-None : goal.returns-in-None
unfolding add_latest times_after positions_after
returns-in-None c =
    let e = c.in-None.is in
    record { result = rw e (c.flush.ensures _); times_after = rw e; positions_after = rw e }

pub returns-in-Some : goal.returns-in-Some
unfolding add_latest times_after positions_after
returns-in-Some c =
    let e = c.in-Some.is in
    let a = c.add-g.ensures in
    record { result = rw e (c.flush-in-Some.ensures _ ∙ ap (flush _) a.result); times_after = rw e a.times_after; positions_after = rw e a.positions_after }
