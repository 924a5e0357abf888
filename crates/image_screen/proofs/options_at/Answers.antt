use Rattle.image.specs.Places.{value_at, span}
use Rattle.image.specs.Codes.{size}
use Rattle.image_screen.proofs.options_at.Goals as goal

pub returns : goal.returns
unfolding value_at span size
returns c = rw (c.double_at-2.ensures, c.double_at.ensures, c.single_at-3.ensures, c.single_at-2.ensures, c.single_at.ensures, c.of-vertical_scroll_modifier.ensures, c.word_at-3.ensures, c.of-horizontal_scroll_modifier.ensures, c.word_at-2.ensures, c.of-zoom_modifier.ensures, c.word_at.ensures)
