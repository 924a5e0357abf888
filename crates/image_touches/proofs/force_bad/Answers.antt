use Rattle.image.specs.Places.{bad_at}
use Rattle.image.specs.Codes.{single, size}
use Rattle.image_words.specs.Leaves.{any}
use native.Mathlib.Numerals.{add-one}
use mathlib.Core.Path.{refl}
use Rattle.image_touches.proofs.force_bad.Goals as goal

pub returns : goal.returns
unfolding size bad_at
returns c = c.maybe_bad.ensures (single any) refl (rw (c.single_bad.ensures, add-one))
