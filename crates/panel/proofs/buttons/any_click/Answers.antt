use Rattle.model.specs.Questions.{ask, reply, shown}
use Rattle.panel.proofs.buttons.any_click.Goals as goal

pub returns : goal.returns
unfolding ask reply shown
returns c ps p e = c.any_click.ensures ps (shown p) (rw e)
