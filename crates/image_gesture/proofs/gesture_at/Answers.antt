use Prim.Native.Nat.{ℕ}
use mathlib.Core.Path.{ap, ◌∙◌}
use native.Mathlib.Numerals.{add-one}
use Rattle.image.specs.Places.{value_at}
use Rattle.image_gesture.specs.Gesture.{fields_code, fields_of, gesture_of}
use Rattle.image_gesture.proofs.gesture_at.Goals as goal

pub returns : goal.returns
unfolding gesture_of
returns c = c.maybe_at.ensures fields_code fields_of (c.fields_at.ensures ∙ ap (λ (i : ℕ). fields_of (value_at fields_code c.args.words.now i)) (add-one c.args.at))
