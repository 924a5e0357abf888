use Rattle.image.specs.Places.{value_at, span}
use Rattle.image_options.proofs.vec_at.Goals as goal

pub returns : goal.returns
unfolding value_at span
returns c = rw (c.single_at-2.ensures, c.single_at.ensures)
