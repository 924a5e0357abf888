use Rattle.image_pointer.specs.Press.{buttons_of}
use Rattle.image_pointer.proofs.press.buttons_of.Goals as goal

pub returns : goal.returns
unfolding buttons_of
returns c = c.buttons.ensures
