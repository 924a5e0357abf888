use mathlib.Core.Path.{◌≡◌}
use Rattle.widget_index.specs.Table.{layers_of, find_layer}
use Rattle.widget_index.proofs.index.Table.find_layer.Given as goal

abbrev pub invariant-loop-l : goal.invariant-loop-l
invariant-loop-l l = find_layer l.self.words.now l.self.numbers.now l.layer l.l ≡ find_layer l.self.words.now l.self.numbers.now l.layer (layers_of l.self.«set»)
