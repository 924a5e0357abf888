use Rattle.image.specs.Places.{bad_at}
use Rattle.image.specs.Codes.{id, size}
use Rattle.image_words.specs.Leaves.{any_id}
use native.Mathlib.Numerals.{add-one}
use mathlib.Core.Path.{refl}
use Rattle.image_options.proofs.maybe_id_bad.Goals as goal

pub returns : goal.returns
unfolding bad_at size
returns c = c.maybe_bad.ensures (id any_id) refl (rw (c.id_bad.ensures, add-one))
