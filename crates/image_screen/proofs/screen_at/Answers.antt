use Rattle.image.specs.Places.{value_at, span}
use Rattle.image.specs.Codes.{size}
use Rattle.image_screen.proofs.screen_at.Goals as goal

pub returns : goal.returns
unfolding value_at span size
returns c = rw (c.word_at.ensures, c.single_at.ensures, c.options_at-options.ensures, c.rect_at-viewport_rect.ensures)
