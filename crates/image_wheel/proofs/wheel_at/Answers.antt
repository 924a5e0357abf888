use Rattle.image.specs.Places.{value_at, span}
use Rattle.image.specs.Codes.{size}
use Rattle.image_wheel.proofs.wheel_at.Goals as goal

pub returns : goal.returns
unfolding value_at span size
returns c = rw (c.vec_at-smooth_wheel_delta.ensures, c.vec_at-unprocessed_wheel_delta.ensures, c.double_at-last_wheel_event.ensures, c.of-modifiers.ensures, c.word_at-3.ensures, c.source_of-source.ensures, c.word_at-2.ensures, c.status_of-status.ensures, c.word_at.ensures)
