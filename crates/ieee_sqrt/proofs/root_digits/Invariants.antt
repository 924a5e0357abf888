-- `ieee_sqrt::root_digits` meets its contract. The invariant of its loop is `Recurrence`, of specs/.
use Rattle.ieee_sqrt.specs.Recurrence.{Recurrence}
use Rattle.ieee_sqrt.proofs.root_digits.Given as goal

abbrev pub invariant-loop-i : goal.invariant-loop-i
invariant-loop-i l = Recurrence l.d l.n l.left l.rem l.root l.i
