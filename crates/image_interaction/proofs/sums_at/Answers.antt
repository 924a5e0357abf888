use Rattle.image.specs.Places.{value_at, span}
use Rattle.image.specs.Codes.{size}
use Rattle.image_interaction.proofs.sums_at.Goals as goal

pub returns : goal.returns
unfolding value_at span size
returns c = rw (c.single_at-3.ensures, c.single_at-2.ensures, c.single_at.ensures, c.vec_at-smooth_scroll_delta.ensures)
