use Rattle.image_options.specs.Options.{pair}
use Rattle.image.specs.Codes.{size}
use native.Mathlib.Numerals.{add-one}
use mathlib.Core.Path.{refl}
use Rattle.image_options.proofs.maybe_pair_bad.Goals as goal

pub returns : goal.returns
unfolding size
returns c = c.maybe_bad.ensures pair refl (rw (c.pair_bad.ensures, add-one))
