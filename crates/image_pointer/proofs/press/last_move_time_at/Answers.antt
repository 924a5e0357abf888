use lib.Ieee.{Float}
use Rattle.image.specs.Places.{value_at, span}
use Rattle.image.specs.Codes.{double, size}
use Rattle.image_words.specs.Leaves.{any}
use Rattle.image_options.specs.Options.{maybe_time_of}
use Rattle.image_pointer.proofs.press.last_move_time_at.Goals as goal

pub returns : goal.returns
unfolding value_at span size maybe_time_of
returns c = rw (c.maybe_at.ensures (double any) (λ (t : Float). t) c.double_at.ensures)
