-- A.3's length where it differs from a length in f32: at the rims of a click and of a smooth delta, and for directions whose f32 squares vanish or overflow. Definitions only.
use Rattle.std.specs.Prelude.{ℕ, zero, suc, ◌*◌, Bool, true, false, List, [], ◌∷◌, Float}
use Rattle.std.specs.Float.{binary32, binary64}
use Rattle.std.specs.Float.Ieee.{of_bits}
use Rattle.model.specs.Options.{default_options}
use Rattle.model.specs.Types.{Pos2, Vec2, Event, PointerMoved}
use Rattle.model.specs.Questions.{bool, vector, zoom, any_click, smooth_scroll_delta, direction, zoom_delta}
use Rattle.edges.specs.Steps.{Step, answers, unprocessed}
use Rattle.edges.specs.Cases.{dec, pos, vec, at, click_distance, press, release, point, finger_starts, finger_moves}

-- by their bit patterns
unfoldable pub spot : ℕ → ℕ → Pos2
spot a b = record { x = of_bits binary32 a; y = of_bits binary32 b }

unfoldable pub delta : ℕ → ℕ → Vec2
delta a b = record { x = of_bits binary32 a; y = of_bits binary32 b }

-- a press, a move by so much, a release: is it a click
unfoldable pub moved_by : Float → ℕ → ℕ → Bool → List Step
moved_by d a b kept = at (dec 1 0) (click_distance d) (press (pos 0 0) ∷ PointerMoved (spot a b) ∷ release (pos 0 0) ∷ []) ∷ answers any_click (bool kept) ∷ []

-- (11.482337, 5.80771303) is truly shorter than 12.8675404, and longer by f32's length; (0.12890625, 5.9986153) is 6 long
unfoldable pub rim_kept : List Step
rim_kept = moved_by (of_bits binary32 0x414d_e172) 0x4137_b7a7 0x40b9_d8c9 true

unfoldable pub rim_kept_at_6 : List Step
rim_kept_at_6 = moved_by (dec 6 0) 0x3e04_0000 0x40bf_f4a8 true

-- one unit in the last place further
unfoldable pub rim_lost : List Step
rim_lost = moved_by (dec 6 0) 0x3e04_0000 0x40bf_f4a9 false

-- along an axis: 6, and one unit in the last place further
unfoldable pub axis_rim_kept : List Step
axis_rim_kept = moved_by (dec 6 0) 0x8000_0000 0x40c0_0000 true

unfoldable pub axis_rim_lost : List Step
axis_rim_lost = moved_by (dec 6 0) 0x40c0_0001 0 false

-- (0.001953125, 7.9999995) is 8 long, and so not smooth by itself: half of the larger part is left. f32's length is below 8.
unfoldable pub wheel_rim : List Step
wheel_rim =
    at (dec 1 0) default_options (point (delta 0x3b00_0000 0x40ff_ffff) ∷ [])
    ∷ answers smooth_scroll_delta (vector (delta 0x3b00_0000 0x407f_ffff)) ∷ unprocessed (delta 0 0x407f_ffff) ∷ []

-- (6.64423084, 4.45580435) is shorter than 8, and its f32 square is 64
unfoldable pub wheel_within : List Step
wheel_within =
    at (dec 1 0) default_options (point (delta 0x40d4_9d8a 0x408e_95f3) ∷ [])
    ∷ answers smooth_scroll_delta (vector (delta 0x40d4_9d8a 0x408e_95f3)) ∷ unprocessed (vec 0 0) ∷ []

-- a velocity, and the direction that it has
unfoldable pub directed : Float → ℕ → List Step
directed t a = at (dec 0 0) default_options (PointerMoved (pos 0 0) ∷ []) ∷ at t default_options (PointerMoved (spot a 0) ∷ []) ∷ answers direction (vector (vec 1 0)) ∷ []

-- 1e-30 over 1/16 s, whose f32 square is 0
unfoldable pub tiny_direction : List Step
tiny_direction = directed (dec 0 625) 0x0da2_4260

-- 1 over 2^-100 s, whose f32 square overflows
unfoldable pub huge_direction : List Step
huge_direction = directed (of_bits binary64 0x39b0_0000_0000_0000) 0x3f80_0000

-- n fingers in a row, k points apart
unfoldable pub row_of : (ℕ → Pos2 → Event) → ℕ → ℕ → List Event
row_of e k zero = []
row_of e k (suc n) = e n (pos (k * n) (k * n * n)) ∷ row_of e k n

-- ten fingers twice as far apart: every distance is doubled exactly
unfoldable pub spread_of_ten : List Step
spread_of_ten =
    at (dec 1 0) default_options (PointerMoved (pos 0 0) ∷ [])
    ∷ at (dec 1 1250) default_options (row_of finger_starts 2 10) ∷ at (dec 1 2500) default_options (row_of finger_moves 4 10)
    ∷ answers zoom_delta (zoom (dec 2 0) (dec 0 0)) ∷ []

unfoldable pub rim_edges : List (List Step)
rim_edges =
    rim_kept ∷ rim_kept_at_6 ∷ rim_lost ∷ axis_rim_kept ∷ axis_rim_lost ∷ wheel_rim ∷ wheel_within ∷ tiny_direction ∷ huge_direction ∷ spread_of_ten ∷ []
