-- A device read back from what was written of it shows what the device shows. Assumes nothing.
use Rattle.std.specs.Prelude.{Option, None, Some, is_some}
use Rattle.std.specs.Option.{unwrap_or}
use Rattle.std.specs.Bool.{then_some}
use Prim.Native.Nat.{ℕ, zero, suc, ◌<◌}
use mathlib.Core.Path.{◌≡◌, refl, sym, ap, ◌∙◌}
use mathlib.Core.Bool.{Bool, false}
use mathlib.Core.List.{List, [], ◌∷◌, map}
use Rattle.touches.proofs.Places.{first_of}
use native.Mathlib.Omega.{arith}
use lib.Ieee.{Float}
use lib.ListN.{length, get_or, set, take, replicate}
use Rattle.model.specs.Touch.{TouchState}
use Rattle.touch_device.specs.declared.Device.{Device}
use Rattle.touch_device.specs.View.{device_view}
use Rattle.model.specs.Types.{ActiveTouch, DynGestureState, GestureState}
use Rattle.host_values.specs.Values.{is_horizontal, is_vertical, pinch_of}
use Rattle.host_values.proofs.Back.{given_back, pinch_back}
use Rattle.host_touch.specs.Device.{touch_of, touch_at, device_of}
use Rattle.host_touch.specs.Kept.{no_touch, with_ids, with_touches, with_forces, with_motion, with_gesture}

-- ---- touches
-- places 0 to n - 1 as they are read
abbrev pub read_to : ℕ → List ℕ → List Float → List Bool → List ActiveTouch → List ActiveTouch
read_to zero ids floats flags a = a
read_to (suc i) ids floats flags a = set (read_to i ids floats flags a) i (touch_at ids floats flags i)

abbrev pub again : ActiveTouch → ActiveTouch
again t = touch_of t.id t.pos.x t.pos.y (is_some t.force) (unwrap_or t.force t.pos.x)

again_same : (t : ActiveTouch) → again t ≡ t
again_same t = rw (given_back t.force t.pos.x)

pub ten : (a : List ActiveTouch) (z : ActiveTouch) → length a ≡ 10
    → (again (get_or a 0 z) ∷ again (get_or a 1 z) ∷ again (get_or a 2 z) ∷ again (get_or a 3 z) ∷ again (get_or a 4 z) ∷ again (get_or a 5 z) ∷ again (get_or a 6 z) ∷ again (get_or a 7 z) ∷ again (get_or a 8 z) ∷ again (get_or a 9 z) ∷ []) ≡ a
ten [] z h = absurd (omega arith)
ten (x0 ∷ []) z h = absurd (omega arith)
ten (x0 ∷ x1 ∷ []) z h = absurd (omega arith)
ten (x0 ∷ x1 ∷ x2 ∷ []) z h = absurd (omega arith)
ten (x0 ∷ x1 ∷ x2 ∷ x3 ∷ []) z h = absurd (omega arith)
ten (x0 ∷ x1 ∷ x2 ∷ x3 ∷ x4 ∷ []) z h = absurd (omega arith)
ten (x0 ∷ x1 ∷ x2 ∷ x3 ∷ x4 ∷ x5 ∷ []) z h = absurd (omega arith)
ten (x0 ∷ x1 ∷ x2 ∷ x3 ∷ x4 ∷ x5 ∷ x6 ∷ []) z h = absurd (omega arith)
ten (x0 ∷ x1 ∷ x2 ∷ x3 ∷ x4 ∷ x5 ∷ x6 ∷ x7 ∷ []) z h = absurd (omega arith)
ten (x0 ∷ x1 ∷ x2 ∷ x3 ∷ x4 ∷ x5 ∷ x6 ∷ x7 ∷ x8 ∷ []) z h = absurd (omega arith)
ten (x0 ∷ x1 ∷ x2 ∷ x3 ∷ x4 ∷ x5 ∷ x6 ∷ x7 ∷ x8 ∷ x9 ∷ []) z h = rw (again_same x0, again_same x1, again_same x2, again_same x3, again_same x4, again_same x5, again_same x6, again_same x7, again_same x8, again_same x9)
ten (x0 ∷ x1 ∷ x2 ∷ x3 ∷ x4 ∷ x5 ∷ x6 ∷ x7 ∷ x8 ∷ x9 ∷ y ∷ a) z h = absurd (omega arith)

-- ---- the gesture
abbrev state_again : DynGestureState → DynGestureState
state_again s =
    record {
      avg_distance = s.avg_distance;
      avg_abs_distance2 = record { x = s.avg_abs_distance2.x; y = s.avg_abs_distance2.y };
      avg_pos = record { x = s.avg_pos.x; y = s.avg_pos.y };
      avg_force = s.avg_force;
      heading = record { x = s.heading.x; y = s.heading.y };
    }

previous_back : (p : Option DynGestureState) (other : DynGestureState) → then_some (is_some p) (state_again (unwrap_or p other)) ≡ p
previous_back None other = refl
previous_back (Some s) other = refl

abbrev gesture_again : GestureState → GestureState
gesture_again g =
    record {
      start_time = g.start_time;
      start_pointer_pos = record { x = g.start_pointer_pos.x; y = g.start_pointer_pos.y };
      pinch_type = pinch_of (is_horizontal g.pinch_type) (is_vertical g.pinch_type);
      previous = then_some (is_some g.previous) (state_again (unwrap_or g.previous g.current));
      current = state_again g.current;
    }

pub gesture_back : (g : GestureState) → gesture_again g ≡ g
gesture_back g = rw (pinch_back g.pinch_type, previous_back g.previous g.current)

-- ---- the device
abbrev seen : ℕ → ℕ → List ActiveTouch → Option GestureState → TouchState
seen id n l g = record { device_id = id; active_touches = take n l; gesture_state = g }

pub shown : (d : Device) (l : List ActiveTouch) (g : Option GestureState) → l ≡ d.touches.places → g ≡ d.gesture_state
    → seen d.id d.touches.count l g ≡ device_view d
shown d l g e f = rw (e, f)

-- ---- a device from what is written of it, over ids and flags of zeros, and any float
pub kept_none : (d : Device) (x start : Float) (ids : List ℕ) (floats : List Float) (flags : List Bool)
    → length d.touches.places ≡ 10
    → ids ≡ with_ids 10 d.touches.places (d.id ∷ d.touches.count ∷ replicate 10 0)
    → floats ≡ with_touches 10 d.touches.places (replicate 48 x)
    → flags ≡ with_forces 10 d.touches.places (replicate 14 false)
    → d.gesture_state ≡ None
    → device_view (device_of ids floats flags start) ≡ device_view d
kept_none d x start ids floats flags l ei ef eb eg = rw (ei, ef, eb) (shown d _ _ (ten d.touches.places no_touch l) (sym eg))

pub kept_some : (d : Device) (x : Float) (ids : List ℕ) (floats floats' : List Float) (flags flags' : List Bool) (g : GestureState)
    → length d.touches.places ≡ 10
    → ids ≡ with_ids 10 d.touches.places (d.id ∷ d.touches.count ∷ replicate 10 0)
    → floats' ≡ with_touches 10 d.touches.places (replicate 48 x) → floats ≡ with_motion g floats'
    → flags' ≡ with_forces 10 d.touches.places (replicate 14 false) → flags ≡ with_gesture g flags'
    → d.gesture_state ≡ Some g
    → device_view (device_of ids floats flags g.start_time) ≡ device_view d
kept_some d x ids floats floats' flags flags' g l ei ef' ef eb' eb eg =
    rw (ei, ef, ef', eb, eb') (shown d _ _ (ten d.touches.places no_touch l) (ap Some (gesture_back g) ∙ sym eg))

-- ---- the first n of four devices
pub first_four : (n : ℕ) (a0 a1 a2 a3 b0 b1 b2 b3 : Device)
    → (0 < n → device_view a0 ≡ device_view b0) → (1 < n → device_view a1 ≡ device_view b1) → (2 < n → device_view a2 ≡ device_view b2)
    → (3 < n → device_view a3 ≡ device_view b3)
    → map device_view (take n (a0 ∷ a1 ∷ a2 ∷ a3 ∷ [])) ≡ map device_view (take n (b0 ∷ b1 ∷ b2 ∷ b3 ∷ []))
first_four zero a0 a1 a2 a3 b0 b1 b2 b3 e0 e1 e2 e3 = refl
first_four (suc zero) a0 a1 a2 a3 b0 b1 b2 b3 e0 e1 e2 e3 = rw (e0 (omega arith))
first_four (suc (suc zero)) a0 a1 a2 a3 b0 b1 b2 b3 e0 e1 e2 e3 = rw (e0 (omega arith), e1 (omega arith))
first_four (suc (suc (suc zero))) a0 a1 a2 a3 b0 b1 b2 b3 e0 e1 e2 e3 = rw (e0 (omega arith), e1 (omega arith), e2 (omega arith))
first_four (suc (suc (suc (suc zero)))) a0 a1 a2 a3 b0 b1 b2 b3 e0 e1 e2 e3 = rw (e0 (omega arith), e1 (omega arith), e2 (omega arith), e3 (omega arith))
first_four (suc (suc (suc (suc (suc n))))) a0 a1 a2 a3 b0 b1 b2 b3 e0 e1 e2 e3 = rw (e0 (omega arith), e1 (omega arith), e2 (omega arith), e3 (omega arith))

pub all_four : (a : List Device) (z : Device) → length a ≡ 4 → (get_or a 0 z ∷ get_or a 1 z ∷ get_or a 2 z ∷ get_or a 3 z ∷ []) ≡ a
all_four [] z h = absurd (omega arith)
all_four (x ∷ []) z h = absurd (omega arith)
all_four (x ∷ y ∷ []) z h = absurd (omega arith)
all_four (x ∷ y ∷ u ∷ []) z h = absurd (omega arith)
all_four (x ∷ y ∷ u ∷ v ∷ []) z h = refl
all_four (x ∷ y ∷ u ∷ v ∷ w ∷ a) z h = absurd (omega arith)

-- so many of them as there are known, of an array of four
pub kept_four : (n c : ℕ) (a : List Device) (z a0 a1 a2 a3 : Device) → length a ≡ 4 → n ≡ length (take c a)
    → (0 < n → device_view a0 ≡ device_view (get_or a 0 z)) → (1 < n → device_view a1 ≡ device_view (get_or a 1 z))
    → (2 < n → device_view a2 ≡ device_view (get_or a 2 z)) → (3 < n → device_view a3 ≡ device_view (get_or a 3 z))
    → map device_view (take n (a0 ∷ a1 ∷ a2 ∷ a3 ∷ [])) ≡ map device_view (take c a)
kept_four n c a z a0 a1 a2 a3 four known e0 e1 e2 e3 =
    first_four n a0 a1 a2 a3 _ _ _ _ e0 e1 e2 e3 ∙ ap (λ l. map device_view (take n l)) (all_four a z four) ∙ ap (map device_view) (first_of n c a known)

pub same_four : (n : ℕ) (a0 a1 a2 a3 b0 b1 b2 b3 : Device)
    → (0 < n → a0 ≡ b0) → (1 < n → a1 ≡ b1) → (2 < n → a2 ≡ b2) → (3 < n → a3 ≡ b3)
    → map device_view (take n (a0 ∷ a1 ∷ a2 ∷ a3 ∷ [])) ≡ map device_view (take n (b0 ∷ b1 ∷ b2 ∷ b3 ∷ []))
same_four n a0 a1 a2 a3 b0 b1 b2 b3 e0 e1 e2 e3 =
    first_four n a0 a1 a2 a3 b0 b1 b2 b3 (λ l. ap device_view (e0 l)) (λ l. ap device_view (e1 l)) (λ l. ap device_view (e2 l)) (λ l. ap device_view (e3 l))
