-- A gesture read from the value that stands for it, and every value in range stands for one.
use Rattle.std.specs.Prelude.{Option, None, Some}
use Prim.Native.Nat.{ℕ, zero, suc}
use native.Mathlib.Omega.{arith}
use mathlib.Core.Path.{◌≡◌, refl}
use lib.Dec.{T, leb→le}
use Rattle.data.specs.Numbers.{pinch_number}
use Rattle.data.specs.declared.touch.PinchType.{PinchType}
use Rattle.data.specs.declared.touch.PinchType.TheVariants.{Horizontal, Vertical, Proportional}
use Rattle.model.specs.Types.{DynGestureState, GestureState}
use Rattle.image.specs.Codes.{El, In}
use Rattle.image_words.specs.Leaves.{upto}
use Rattle.image_gesture.specs.Gesture.{max_pinch, previous_code, previous_el, previous_of, pinch_of, gesture_code, gesture_el, gesture_of}

pinch_back : (p : PinchType) → pinch_of (pinch_number p) ≡ p
unfolding pinch_of
pinch_back Horizontal = refl
pinch_back Vertical = refl
pinch_back Proportional = refl

previous_back : (p : Option DynGestureState) → previous_of (previous_el p) ≡ p
unfolding previous_of previous_el
previous_back None = refl
previous_back (Some d) = refl

pub gesture_back : (g : Option GestureState) → gesture_of (gesture_el g) ≡ g
unfolding gesture_of gesture_el
gesture_back None = refl
gesture_back (Some g) = rw (pinch_back g.pinch_type, previous_back g.previous)

-- ---- and forth
pinch_forth : (n : ℕ) → T (upto max_pinch n) → pinch_number (pinch_of n) ≡ n
unfolding pinch_of
pinch_forth zero h = refl
pinch_forth (suc zero) h = refl
pinch_forth (suc (suc zero)) h = refl
pinch_forth (suc (suc (suc n))) h = absurd (let k = leb→le (suc (suc (suc n))) max_pinch h in omega arith)

previous_forth : (v : El previous_code) → previous_el (previous_of v) ≡ v
unfolding previous_el previous_of
previous_forth None = refl
previous_forth (Some v) = refl

pub gesture_forth : (v : El gesture_code) → In gesture_code v → gesture_el (gesture_of v) ≡ v
unfolding gesture_el gesture_of
gesture_forth None h = refl
gesture_forth (Some v) h = rw (pinch_forth v.0.1.1 h.0.1.1, previous_forth v.1.0)
