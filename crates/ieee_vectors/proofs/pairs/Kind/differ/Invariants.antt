use Rattle.std.proofs.Common.{◌≡◌, ◌≤◌}
use Rattle.ieee_vectors.specs.Pairs.{differing}
use Rattle.ieee_vectors.proofs.pairs.Kind.differ.Given as goal

-- `count` of the first i pairs differ
abbrev pub invariant-loop-i : goal.invariant-loop-i
invariant-loop-i l = (l.count ≡ differing l.self l.s l.i) × (l.count ≤ l.i)
