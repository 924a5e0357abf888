use mathlib.Core.Path.{refl, ap, ◌∙◌}
use native.Mathlib.Numerals.{add-one}
use Rattle.image.specs.Codes.{size}
use Rattle.image.specs.Places.{bad_at}
use Rattle.image_gesture.specs.Gesture.{fields_code}
use Rattle.image_gesture.proofs.gesture_bad.Goals as goal

pub returns : goal.returns
unfolding size
returns c =
    let a = c.args in
    c.maybe_bad.ensures fields_code refl (c.fields_bad.ensures ∙ ap (bad_at fields_code a.words.now) (add-one a.at))
