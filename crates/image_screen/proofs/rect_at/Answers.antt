use Rattle.image.specs.Places.{value_at, span}
use Rattle.image.specs.Codes.{size}
use Rattle.image_screen.proofs.rect_at.Goals as goal

pub returns : goal.returns
unfolding value_at span size
returns c = rw (c.single_at-4.ensures, c.single_at-3.ensures, c.single_at-2.ensures, c.single_at.ensures)
