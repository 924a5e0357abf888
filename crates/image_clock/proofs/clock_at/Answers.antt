use Rattle.image.specs.Places.{value_at, span}
use Rattle.image.specs.Codes.{size}
use Rattle.image_clock.proofs.clock_at.Goals as goal

pub returns : goal.returns
unfolding value_at span size
returns c = rw (c.single_at-3.ensures, c.single_at-2.ensures, c.single_at.ensures, c.double_at-2.ensures, c.double_at.ensures)
