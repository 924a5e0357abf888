use Rattle.image_fixed.proofs.Chain.{two, clock_length}
use mathlib.Core.Path.{refl}
use Rattle.input_state.specs.View.{clock}
use Rattle.image_clock.specs.Clock.{clock_el}
use Rattle.image_fixed.proofs.screen_put.Goals as goal

pub returns : goal.returns
returns c =
    let a = c.args in (
      two a.out.now _ _ c.clock_words-c.result c.screen_words-s.result _ _ 1 9 8 c.copy.ensures c.copy-2.ensures c.clock_words-c.ensures.0 c.screen_words-s.ensures.0 (clock_length (clock_el (clock a.clock))) refl,
      c.clock_words-c.ensures.1,
      c.screen_words-s.ensures.1,
    )
