use Rattle.model.specs.Questions.{ask, reply, shown}
use Rattle.model.specs.Interact.{could_click}
use Rattle.panel.proofs.buttons.could_any_button_be_click.Goals as goal

pub returns : goal.returns
unfolding ask reply shown could_click
returns c ps p hc hy hs = rw (hc, hy, hs, c.could_any_button_be_click.ensures ps)
