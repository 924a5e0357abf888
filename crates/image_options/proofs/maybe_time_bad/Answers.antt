use Rattle.image.specs.Places.{bad_at}
use Rattle.image.specs.Codes.{double, size}
use Rattle.image_words.specs.Leaves.{any}
use native.Mathlib.Numerals.{add-one}
use mathlib.Core.Path.{refl}
use Rattle.image_options.proofs.maybe_time_bad.Goals as goal

pub returns : goal.returns
unfolding bad_at size
returns c = c.maybe_bad.ensures (double any) refl (rw (c.double_bad.ensures, add-one))
