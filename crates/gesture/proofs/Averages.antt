-- The model's cases by the number of fingers, as the code tells them apart. Assumes nothing.
use Rattle.std.specs.Prelude.{None, Some}
use mathlib.Core.Path.{◌≡◌, refl}
use mathlib.Core.List.{List, [], ◌∷◌}
use Prim.Native.Nat.{ℕ, ◌≤◌, ◌<◌}
use native.Mathlib.Omega.{arith}
use lib.ListN.{length, get_or, take, length-take}
use lib.Seq.{get_or-take}
use lib.Ieee.{Float, binary32, sub, mul}
use Rattle.emath.specs.Vec.{abs, vec_zero, pos_sub}
use Rattle.model.specs.Numbers.{+0}
use Rattle.model.specs.Types.{Pos2, ActiveTouch, PinchType, Proportional, DynGestureState}
use Rattle.model.specs.Touch.{classify, classify_by, calc_dynamic_state, averages, center, recip, sum_distance, sum_abs_distance2, sum_force}

-- the pinch of the touches t and u
unfoldable pub pinch : ActiveTouch → ActiveTouch → PinchType
pinch t u = classify_by (abs (sub binary32 t.pos.x u.pos.x)) (abs (sub binary32 t.pos.y u.pos.y))

pub two : (us : List ActiveTouch) (z : ActiveTouch) → length us ≡ 2 → classify us ≡ pinch (get_or us 0 z) (get_or us 1 z)
unfolding classify pinch
two [] z e = absurd (omega arith)
two (t ∷ []) z e = absurd (omega arith)
two (t ∷ u ∷ []) z e = refl
two (t ∷ u ∷ v ∷ vs) z e = absurd (omega arith)

pub not_two : (us : List ActiveTouch) → (length us ≡ 2 → ⊥) → classify us ≡ Proportional
unfolding classify
not_two [] n = refl
not_two (t ∷ []) n = refl
not_two (t ∷ u ∷ []) n = absurd (n refl)
not_two (t ∷ u ∷ v ∷ vs) n = refl

pub few : (us : List ActiveTouch) → length us < 2 → calc_dynamic_state us ≡ None
unfolding calc_dynamic_state
few [] h = refl
few (t ∷ []) h = refl
few (t ∷ u ∷ us) h = absurd (omega arith)

-- the averages around c, with the heading from the touch t
unfoldable pub around : Pos2 → Float → ActiveTouch → List ActiveTouch → DynGestureState
around c r t us =
    record {
      avg_distance = mul binary32 (sum_distance c +0 us) r;
      avg_abs_distance2 = record { x = mul binary32 (sum_abs_distance2 c vec_zero us).x r; y = mul binary32 (sum_abs_distance2 c vec_zero us).y r };
      avg_pos = c;
      avg_force = mul binary32 (sum_force +0 us) r;
      heading = pos_sub c t.pos;
    }

pub many : (us : List ActiveTouch) (z : ActiveTouch) → 2 ≤ length us
    → calc_dynamic_state us ≡ Some (around (center (recip (length us)) us) (recip (length us)) (get_or us 0 z) us)
unfolding calc_dynamic_state around averages
many [] z h = absurd (omega arith)
many (t ∷ []) z h = absurd (omega arith)
many (t ∷ u ∷ us) z h = refl

at_of : (c i : ℕ) (a : List ActiveTouch) (z : ActiveTouch) → i < length (take c a) → get_or (take c a) i z ≡ get_or a i z
at_of c i a z h = get_or-take c a i z (omega (arith, length-take c a))

pub two_at : (c : ℕ) (a : List ActiveTouch) (z : ActiveTouch) → length (take c a) ≡ 2 → pinch (get_or a 0 z) (get_or a 1 z) ≡ classify (take c a)
two_at c a z e = rw (two (take c a) z e, at_of c 0 a z (omega arith), at_of c 1 a z (omega arith))

pub many_at : (c : ℕ) (a : List ActiveTouch) (z : ActiveTouch) → 2 ≤ length (take c a)
    → Some (around (center (recip (length (take c a))) (take c a)) (recip (length (take c a))) (get_or a 0 z) (take c a)) ≡ calc_dynamic_state (take c a)
many_at c a z h = rw (many (take c a) z h, at_of c 0 a z (omega arith))
