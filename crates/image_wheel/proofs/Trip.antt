-- Group 5: the words put together are those of the record; what stands for it gives it back, and every value in range stands for one. Assumes nothing.
use Prim.Native.Nat.{ℕ, zero, suc, ◌/◌, ◌%◌}
use native.Mathlib.Omega.{arith}
use mathlib.Core.Path.{◌≡◌, refl}
use mathlib.Core.List.{[], ◌∷◌}
use lib.Dec.{T, leb→le}
use lib.Ieee.{binary32, binary64, to_bits}
use Rattle.data.specs.Modifiers.{modifiers_number}
use Rattle.data.specs.Numbers.{status_number, source_number}
use Rattle.feed.specs.Shape.{source_of}
use Rattle.model.specs.Types.{WheelState, Status, Static, Smoothing, InTouch, MouseWheelSource, Unknown, Wheel, Trackpad, Momentum}
use Rattle.image.specs.Codes.{El, In, write, size, half}
use Rattle.image_words.specs.Leaves.{upto}
use Rattle.image_options.proofs.Trip.{modifiers_again, modifiers_forth}
use Rattle.image_wheel.specs.Wheel.{max_status, max_source, wheel_code, wheel_el, wheel_of, status_of}

pub wheel_list : (w : WheelState) (s q m last h l a b d e : ℕ)
    → s ≡ status_number w.status → q ≡ source_number w.source → m ≡ modifiers_number w.modifiers
    → last ≡ to_bits binary64 w.last_wheel_event → h ≡ last / half → l ≡ last % half
    → a ≡ to_bits binary32 w.unprocessed_wheel_delta.x → b ≡ to_bits binary32 w.unprocessed_wheel_delta.y
    → d ≡ to_bits binary32 w.smooth_wheel_delta.x → e ≡ to_bits binary32 w.smooth_wheel_delta.y
    → 0x5000_0009 ∷ s ∷ q ∷ m ∷ h ∷ l ∷ a ∷ b ∷ d ∷ e ∷ [] ≡ write wheel_code (wheel_el w)
unfolding write size
wheel_list w s q m last h l a b d e es eq em et eh el ea eb ed ee = rw (es, eq, em, eh, el, et, ea, eb, ed, ee)

-- ---- the two enums
pub status_in : (s : Status) → T (upto max_status (status_number s))
status_in Static = tt
status_in Smoothing = tt
status_in InTouch = tt

status_back : (s : Status) → status_of (status_number s) ≡ s
unfolding status_of
status_back Static = refl
status_back Smoothing = refl
status_back InTouch = refl

status_forth : (n : ℕ) → T (upto max_status n) → status_number (status_of n) ≡ n
unfolding status_of
status_forth zero h = refl
status_forth (suc zero) h = refl
status_forth (suc (suc zero)) h = refl
status_forth (suc (suc (suc n))) h = absurd (let k = leb→le (suc (suc (suc n))) max_status h in omega arith)

pub source_in : (s : MouseWheelSource) → T (upto max_source (source_number s))
source_in Unknown = tt
source_in Wheel = tt
source_in Trackpad = tt
source_in Momentum = tt

source_back : (s : MouseWheelSource) → source_of (source_number s) ≡ s
unfolding source_of
source_back Unknown = refl
source_back Wheel = refl
source_back Trackpad = refl
source_back Momentum = refl

source_forth : (n : ℕ) → T (upto max_source n) → source_number (source_of n) ≡ n
unfolding source_of
source_forth zero h = refl
source_forth (suc zero) h = refl
source_forth (suc (suc zero)) h = refl
source_forth (suc (suc (suc zero))) h = refl
source_forth (suc (suc (suc (suc n)))) h = absurd (let k = leb→le (suc (suc (suc (suc n)))) max_source h in omega arith)

-- ---- the record
pub wheel_back : (w : WheelState) → wheel_of (wheel_el w) ≡ w
wheel_back w = rw (status_back w.status, source_back w.source, modifiers_again w.modifiers)

pub wheel_forth : (v : El wheel_code) → In wheel_code v → wheel_el (wheel_of v) ≡ v
wheel_forth v h = rw (status_forth v.0 h.0, source_forth v.1.0 h.1.0, modifiers_forth v.1.1.0 h.1.1.0)
