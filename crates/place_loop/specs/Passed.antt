-- The place's part of a pass, on the lent arrays.
use Rattle.std.specs.Prelude.{ℕ, ◌+◌, ◌≡◌, List, length, Float}
use Rattle.emath_history.specs.Ring as Ring
use Rattle.model.specs.Types.{Event}
use Rattle.model.specs.Pointer.{start_place, place_events, place_pass}
use Rattle.pointer_place.specs.declared.Place.{Place}
use Rattle.pointer_place.specs.View.{place, times_after, positions_after}

-- the place of the pass's sample: the first free one after the samples that the events leave (a press clears them), or the oldest's where all are taken
abbrev pub sample_place : List Event → List Float → List Float → Place → ℕ
sample_place es times positions p = Ring.place (p.history.start + length (place_events es (start_place (place times positions p))).pos_history)

-- Of the pass's events in the pointer's list.
pub record PlacePassed (time : Float) (es : List Event) (times positions : List Float) (p : Place) (times' positions' : List Float) (r : Place) : Type 0 where
  -- the model's
  pub result : place times' positions' r ≡ place_pass time es (place times positions p)
  -- where the pointer ends with a position, the pass's time stands at the sample's place; every other place keeps its contents
  pub times_after : times' ≡ times_after (place_pass time es (place times positions p)).latest_pos (sample_place es times positions p) time times
  -- and so the position
  pub positions_after : positions' ≡ positions_after (place_pass time es (place times positions p)).latest_pos (sample_place es times positions p) positions
