use Rattle.image.specs.Places.{value_at, span}
use Rattle.image.specs.Codes.{size}
use Rattle.image_pointer.proofs.press.started_at.Goals as goal

pub returns : goal.returns
unfolding value_at span size
returns c = rw c.word_at.ensures
