use Prim.Native.Nat.{suc}
use mathlib.Core.Path.{◌≡◌, sym, ◌∙◌, ap}
use Rattle.widget_index.specs.Layout.{entry_of}
use Rattle.widget_index.specs.Table.{chain, find}
use Rattle.widget_index.proofs.Chain.{stops, goes_on}
use native.Mathlib.Omega.{arith}
use Rattle.widget_index.proofs.index.Table.find.Goals as goal

pub returns-then-id-self : goal.returns-then-id-self
unfolding find
returns-then-id-self c =
    let here : entry_of c.loop-at.at ≡ suc c.in-Some.s = ap entry_of c.in-Some.is in
    (rw (← c.head-at.ensures.0) (sym (stops _ _ _ _ c.if-id-self.true) ∙ rw here at c.loop-at.invariant.1), omega (arith, here, c.loop-at.invariant.0))

pub loop-at-preserved : goal.loop-at-preserved
loop-at-preserved c =
    let here : entry_of c.loop-at.at ≡ suc c.in-Some.s = ap entry_of c.in-Some.is in
    (omega (arith, here, c.link-at.ensures.1, c.loop-at.invariant.0), rw c.link-at.ensures.0 (sym (goes_on _ _ _ _ c.if-id-self.false) ∙ rw here at c.loop-at.invariant.1))

pub returns : goal.returns
unfolding find chain
returns c = (let none : entry_of c.loop-at.at ≡ 0 = ap entry_of c.in_default.is in rw (← c.head-at.ensures.0) (rw none at c.loop-at.invariant.1), omega arith)
