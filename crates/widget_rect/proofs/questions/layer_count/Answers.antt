use Prim.Native.Nat.{suc, ◌-◌}
use mathlib.Core.Path.{◌≡◌, sym, ◌∙◌, ap}
use native.Mathlib.Omega.{arith}
use lib.Dec.{eqb-suc-zero}
use Rattle.widget_index.specs.Layout.{entry_of}
use Rattle.widget_append.specs.Append.{count_of}
use Rattle.widget_rect.proofs.Asked.{answers_count}
use Rattle.widget_rect.proofs.questions.layer_count.Goals as goal

pub returns-in-None : goal.returns-in-None
unfolding count_of
returns-in-None c = answers_count _ _ _ _ _ (rw (sym c.find_layer.ensures.0 ∙ ap entry_of c.in-None.is))

pub returns-in-Some : goal.returns-in-Some
unfolding count_of
returns-in-Some c =
    let one : suc c.in-Some.l - 1 ≡ c.in-Some.l = omega arith in
    answers_count _ _ _ _ _ (rw (sym c.find_layer.ensures.0 ∙ ap entry_of c.in-Some.is, eqb-suc-zero, one) c.count_at.ensures.0)
