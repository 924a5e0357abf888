use Rattle.model.specs.Pass.{own_numbers_ok}
use Rattle.input_state.proofs.input.own_numbers_ok.Goals as goal

pub returns : goal.returns
unfolding own_numbers_ok
returns c ws = rw (c.time_ok.ensures, c.options_ok-opts.ensures, c.rect_given_ok-rect.ensures, c.scale_ok-scale.ensures, c.unit_interval_ok-factor.ensures, c.unit_interval_ok-dt.ensures)
