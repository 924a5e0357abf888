use mathlib.Core.Bool.{and-true, and-false}
use Prim.Native.Nat.{◌<◌}
use native.Mathlib.Nat.{add_assoc}
use native.Mathlib.Omega.{arith}
use borrow.Author.Tests.{le-ltb, lt-ltb}
use Rattle.feed_check.specs.Verdict.{judged}
use Rattle.feed_check.proofs.Judged.{no_force, force_is}
use Rattle.feed_check.proofs.touch.Goals as goal

pub returns-then-low-lt4 : goal.returns-then-low-lt4
unfolding judged
returns-then-low-lt4 c =
    let small : c.args.low < 8 = omega arith in
    rw (c.placed.ensures, add_assoc _ 4 1, add_assoc _ 4 2, no_force _ _ c.if-low-lt4.true, and-true, lt-ltb _ _ small)

pub returns-then-force_ok : goal.returns-then-force_ok
unfolding judged
returns-then-force_ok c = rw (c.placed-then-force_ok.ensures, add_assoc _ 4 1, add_assoc _ 4 2, force_is _ _ c.if-low-lt4.false c.if-low-lt8.true, ← c.float_of.ensures, ← c.force_ok.ensures, c.if-force_ok.true, and-true, lt-ltb _ _ c.if-low-lt8.true)

pub returns-then-low-lt8 : goal.returns-then-low-lt8
unfolding judged
returns-then-low-lt8 c = rw (force_is _ _ c.if-low-lt4.false c.if-low-lt8.true, ← c.float_of.ensures, ← c.force_ok.ensures, c.if-force_ok.false, and-false, lt-ltb _ _ c.if-low-lt8.true)

pub returns : goal.returns
unfolding judged
returns c = rw (le-ltb _ _ c.if-low-lt8.false)
