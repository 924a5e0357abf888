-- What a place of src/ means beside the lent arrays of its history: the model's record.
use Rattle.std.specs.Prelude.{ℕ, ◌≡◌, Bool, List, set, Float, Option, None, Some}
use Rattle.emath_history.specs.declared.history.History.{History}
use Rattle.emath.specs.History.{flush}
use Rattle.emath_history.specs.Ring.{view, free, set_position}
use Rattle.model.specs.Types.{Pos2}
use Rattle.model.specs.Pointer.{add_latest, end_place}
use Rattle.model.specs.Pointer as Pointer
use Rattle.pointer_place.specs.declared.Place.{Place}

abbrev pub place : List Float → List Float → Place → Pointer.Place
place times positions p =
    record {
      latest_pos = p.latest_pos;
      interact_pos = p.interact_pos;
      delta = p.delta;
      motion = p.motion;
      velocity = p.velocity;
      direction = p.direction;
      pos_history = view times positions p.history;
    }

-- What a step before the end of a pass leaves.
pub record Placed (step : Pointer.Place → Pointer.Place) (p r : Place) : Type 0 where
  -- the model's step, whatever the lent arrays hold
  pub result : (times positions : List Float) → place times positions r ≡ step (place times positions p)
  -- the history begins at the place where it began
  pub start : r.history.start ≡ p.history.start

-- what the pass's sample, at place i, leaves of the lent places: without a position there is none, and all stays
unfoldable pub times_after : Option Pos2 → ℕ → Float → List Float → List Float
times_after None i time times = times
times_after (Some v) i time times = set times i time

unfoldable pub positions_after : Option Pos2 → ℕ → List Float → List Float
positions_after None i positions = positions
positions_after (Some v) i positions = set_position positions i v

-- The history with the pass's sample.
pub record Sampled (time : Float) (latest : Option Pos2) (times positions : List Float) (h : History) (times' positions' : List Float) (r : History) : Type 0 where
  pub result : view times' positions' r ≡ flush time (add_latest time latest (view times positions h))
  pub times_after : times' ≡ times_after latest (free h) time times
  pub positions_after : positions' ≡ positions_after latest (free h) positions

-- The end of a pass; of the lent places only the new sample's are written.
pub record Ended (time : Float) (old : Option Pos2) (gone : Bool) (times positions : List Float) (p : Place) (times' positions' : List Float) (r : Place) : Type 0 where
  pub result : place times' positions' r ≡ end_place time old gone (place times positions p)
  pub times_after : times' ≡ times_after p.latest_pos (free p.history) time times
  pub positions_after : positions' ≡ positions_after p.latest_pos (free p.history) positions
