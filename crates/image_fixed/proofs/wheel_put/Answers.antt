use Rattle.image_fixed.proofs.Chain.{two, wheel_length}
use mathlib.Core.Path.{refl}
use Rattle.image_wheel.specs.Wheel.{wheel_el}
use Rattle.image_fixed.proofs.wheel_put.Goals as goal

pub returns : goal.returns
returns c =
    let a = c.args in
    let k = c.keys_put.ensures in (
      two a.out.now _ _ c.wheel_words-w.result _ _ _ 62 72 10 c.copy.ensures k.0 c.wheel_words-w.ensures.0 refl (wheel_length (wheel_el a.wheel)) refl,
      c.wheel_words-w.ensures.1,
      k.1,
    )
