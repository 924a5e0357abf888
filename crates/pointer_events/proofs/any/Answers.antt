use mathlib.Core.Path.{sym, ◌∙◌}
use native.Mathlib.Omega.{arith}
use Rattle.pointer_events.proofs.Stored.{found, passed, none_left, whole}
use Rattle.pointer_events.proofs.any.Goals as goal

pub loop-i-init : goal.loop-i-init
loop-i-init g c = (omega arith, omega arith, λ f tests ps. rw c.counted-n.ensures (whole _ _ _ _))

pub returns-then-test : goal.returns-then-test
returns-then-test g c f tests ps =
    let answer = rw (c.kind_at.ensures ps) at c.test.ensures in
    found f _ ps _ _ c.loop-i-test.true (sym (tests _ _ answer) ∙ c.if-test.true)
    ∙ c.loop-i.invariant.2 f tests ps

pub loop-i-preserved : goal.loop-i-preserved
loop-i-preserved g c = (
  omega arith,
  c.loop-i.invariant.1,
  λ f tests ps.
      let answer = rw (c.kind_at.ensures ps) at c.test.ensures in
      passed f _ ps _ _ c.loop-i-test.true (sym (tests _ _ answer) ∙ c.if-test.false)
      ∙ c.loop-i.invariant.2 f tests ps,
)

pub returns : goal.returns
returns g c f tests ps = none_left _ _ ps _ _ c.loop-i-test.false ∙ c.loop-i.invariant.2 f tests ps
