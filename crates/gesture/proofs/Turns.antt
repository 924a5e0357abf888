-- The sums over the touches, a turn at a time, for any number of fingers. Assumes nothing.
use mathlib.Core.Path.{◌≡◌}
use mathlib.Core.List.{List}
use Prim.Native.Nat.{ℕ, ◌+◌, ◌≤◌, ◌<◌}
use native.Mathlib.Numerals.{add-one}
use lib.ListN.{length, get_or, drop, drop_of_length-le}
use lib.Seq.{drop-cons}
use lib.Ieee.{Float, binary32, add}
use Rattle.emath.specs.Vec.{distance, vec_add, vec_abs, pos_sub}
use Rattle.model.specs.Types.{Pos2, Vec2, ActiveTouch}
use Rattle.model.specs.Touch.{sum_force, sum_pos, sum_distance, sum_abs_distance2, force_or_zero}

module _ (i : ℕ) (us : List ActiveTouch) (z : ActiveTouch) (h : i < length us) where
  pub force_step : (s : Float) → sum_force (add binary32 s (force_or_zero (get_or us i z).force)) (drop (i + 1) us) ≡ sum_force s (drop i us)
  unfolding sum_force
  force_step s = rw (add-one, drop-cons us i z h)

  pub pos_step : (s : Pos2) → sum_pos (record { x = add binary32 s.x (get_or us i z).pos.x; y = add binary32 s.y (get_or us i z).pos.y }) (drop (i + 1) us) ≡ sum_pos s (drop i us)
  unfolding sum_pos
  pos_step s = rw (add-one, drop-cons us i z h)

  pub distance_step : (c : Pos2) (s : Float) → sum_distance c (add binary32 s (distance c (get_or us i z).pos)) (drop (i + 1) us) ≡ sum_distance c s (drop i us)
  unfolding sum_distance
  distance_step c s = rw (add-one, drop-cons us i z h)

  pub away_step : (c : Pos2) (s : Vec2) → sum_abs_distance2 c (vec_add s (vec_abs (pos_sub c (get_or us i z).pos))) (drop (i + 1) us) ≡ sum_abs_distance2 c s (drop i us)
  unfolding sum_abs_distance2
  away_step c s = rw (add-one, drop-cons us i z h)

module _ (i : ℕ) (us : List ActiveTouch) (h : length us ≤ i) where
  pub force_end : (s : Float) → s ≡ sum_force s (drop i us)
  unfolding sum_force
  force_end s = rw (drop_of_length-le us h)

  pub pos_end : (s : Pos2) → s ≡ sum_pos s (drop i us)
  unfolding sum_pos
  pos_end s = rw (drop_of_length-le us h)

  pub distance_end : (c : Pos2) (s : Float) → s ≡ sum_distance c s (drop i us)
  unfolding sum_distance
  distance_end c s = rw (drop_of_length-le us h)

  pub away_end : (c : Pos2) (s : Vec2) → s ≡ sum_abs_distance2 c s (drop i us)
  unfolding sum_abs_distance2
  away_end c s = rw (drop_of_length-le us h)
