use mathlib.Core.Path.{◌≡◌}
use Rattle.widget_insert.specs.Insert.{fall}
use Rattle.widget_insert.proofs.fall.Given as goal

abbrev pub invariant-loop-s : goal.invariant-loop-s
invariant-loop-s l = l.numbers ≡ fall l.s l.after l.before l.initial.numbers
