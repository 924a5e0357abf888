use Prim.Native.Nat.{suc, ◌-◌}
use mathlib.Core.Path.{◌≡◌, sym, ◌∙◌}
use native.Mathlib.Omega.{arith}
use Rattle.widget_index.specs.Table.{find_layer, last}
use Rattle.widget_index.proofs.Chain.{last_stops, last_goes_on}
use Rattle.widget_index.proofs.index.Table.find_layer.Goals as goal

pub returns-then-same_layer : goal.returns-then-same_layer
unfolding find_layer
returns-then-same_layer c =
    let one : suc (c.loop-l.l - 1) ≡ c.loop-l.l = omega arith in
    (one ∙ sym (last_stops _ _ c.loop-l-test.true (sym (rw c.layer_at.ensures at c.same_layer.ensures) ∙ c.if-same_layer.true)) ∙ c.loop-l.invariant, omega arith)

pub loop-l-preserved : goal.loop-l-preserved
unfolding find_layer
loop-l-preserved c = sym (last_goes_on _ _ c.loop-l-test.true (sym (rw c.layer_at.ensures at c.same_layer.ensures) ∙ c.if-same_layer.false)) ∙ c.loop-l.invariant

pub returns : goal.returns
unfolding find_layer last
returns c = (let z : c.loop-l.l ≡ 0 = omega arith in rw z at c.loop-l.invariant, omega arith)
