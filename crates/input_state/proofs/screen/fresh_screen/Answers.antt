use Rattle.model.specs.Pass.{fresh}
use Rattle.model.specs.Numbers.{one, ten_thousand}
use Rattle.input_state.proofs.screen.fresh_screen.Goals as goal

pub returns : goal.returns
unfolding fresh one ten_thousand
returns c = rw (c.default_options-options.ensures, c.zero-min.ensures)
