use lib.Ieee.{of_bits, div}
use Rattle.data.specs.Modifiers.{no_modifiers}
use Rattle.model.specs.Options.{default_options}
use Rattle.input_state.proofs.screen.default_options.Goals as goal

pub returns : goal.returns
unfolding default_options no_modifiers of_bits div
returns c = rw c.none-none.ensures
