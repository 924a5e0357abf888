use Rattle.std.specs.Prelude.{◌≡◌, Bool, true, false, cond}
use mathlib.Core.Path.{refl, ◌∙◌}
use Rattle.widget_index.specs.Layout.{bit}
use Rattle.widget_index.proofs.table.packed.Goals as goal

bit_is : (b : Bool) → cond b 1 0 ≡ bit b
unfolding bit
bit_is true = refl
bit_is false = refl

pub returns : goal.returns
returns c = rw (c.bit_number.ensures.0 ∙ bit_is _, c.bit_number-2.ensures.0 ∙ bit_is _)
