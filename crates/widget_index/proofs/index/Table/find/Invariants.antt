use Prim.Native.Nat.{◌≤◌}
use mathlib.Core.Path.{◌≡◌}
use Rattle.widget_index.specs.Layout.{entry_of}
use Rattle.widget_index.specs.Table.{chain}
use Rattle.widget_index.proofs.index.Table.find.Given as goal

abbrev pub invariant-loop-at : goal.invariant-loop-at
invariant-loop-at l = (entry_of l.at ≤ 1024) × (chain l.self.words.now l.self.numbers.now l.id (entry_of l.at) (entry_of l.at) ≡ chain l.self.words.now l.self.numbers.now l.id (entry_of l.initial.at) (entry_of l.initial.at))

abbrev pub decreases-loop-at : goal.decreases-loop-at
decreases-loop-at l = entry_of l.at
