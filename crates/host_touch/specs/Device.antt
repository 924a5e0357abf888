-- A touch device as the host's memory holds it: `ids` are its id, the count of its touches and their ids; `floats` and `flags` are those of its touches
-- and of its gesture; `start` is the time at which the gesture started. Any contents mean some device.
use Rattle.std.specs.Prelude.{ℕ, ◌+◌, ◌*◌, Bool, false, List, [], ◌∷◌, get_or, Float, Option}
use Rattle.std.specs.Bool.{then_some}
use Rattle.std.specs.Float.{nan}
use Rattle.model.specs.Types.{ActiveTouch, DynGestureState, GestureState}
use Rattle.touches.specs.declared.Touches.{Touches}
use Rattle.touch_device.specs.declared.Device.{Device}
use Rattle.host_values.specs.Values.{pinch_of}

-- ---- places
abbrev pub touch_ids : ℕ
touch_ids = 2

abbrev pub touch_floats : ℕ
touch_floats = 3

abbrev pub gesture_start : ℕ
gesture_start = 30

abbrev pub current_state : ℕ
current_state = 32

abbrev pub previous_state : ℕ
previous_state = 40

abbrev pub float_count : ℕ
float_count = 48

abbrev pub has_gesture : ℕ
has_gesture = 10

abbrev pub has_previous : ℕ
has_previous = 11

abbrev pub horizontal_pinch : ℕ
horizontal_pinch = 12

abbrev pub vertical_pinch : ℕ
vertical_pinch = 13

-- ---- read
abbrev pub touch_of : ℕ → Float → Float → Bool → Float → ActiveTouch
touch_of id x y given f = record { id = id; pos = record { x = x; y = y }; force = then_some given f }

-- touch i: its id, then its position and its force, and whether it has a force
abbrev pub touch_at : List ℕ → List Float → List Bool → ℕ → ActiveTouch
touch_at ids floats flags i =
    touch_of (get_or ids (touch_ids + i) 0) (get_or floats (touch_floats * i) nan) (get_or floats (touch_floats * i + 1) nan) (get_or flags i false)
    (get_or floats (touch_floats * i + 2) nan)

abbrev pub touches_of : List ℕ → List Float → List Bool → Touches
touches_of ids floats flags =
    record {
      count = get_or ids 1 0;
      places =
          touch_at ids floats flags 0 ∷
          touch_at ids floats flags 1 ∷
          touch_at ids floats flags 2 ∷
          touch_at ids floats flags 3 ∷
          touch_at ids floats flags 4 ∷
          touch_at ids floats flags 5 ∷
          touch_at ids floats flags 6 ∷
          touch_at ids floats flags 7 ∷
          touch_at ids floats flags 8 ∷
          touch_at ids floats flags 9 ∷
          [];
    }

-- a gesture's state from place i on
abbrev pub state_at : List Float → ℕ → DynGestureState
state_at floats i =
    record {
      avg_distance = get_or floats i nan;
      avg_abs_distance2 = record { x = get_or floats (i + 1) nan; y = get_or floats (i + 2) nan };
      avg_pos = record { x = get_or floats (i + 3) nan; y = get_or floats (i + 4) nan };
      avg_force = get_or floats (i + 5) nan;
      heading = record { x = get_or floats (i + 6) nan; y = get_or floats (i + 7) nan };
    }

abbrev pub previous_of : Bool → List Float → Option DynGestureState
previous_of given floats = then_some given (state_at floats previous_state)

abbrev pub gesture_of : List Float → List Bool → Float → Option GestureState
gesture_of floats flags start =
    then_some (get_or flags has_gesture false)
    (record {
      start_time = start;
      start_pointer_pos = record { x = get_or floats gesture_start nan; y = get_or floats (gesture_start + 1) nan };
      pinch_type = pinch_of (get_or flags horizontal_pinch false) (get_or flags vertical_pinch false);
      previous = previous_of (get_or flags has_previous false) floats;
      current = state_at floats current_state;
    })

abbrev pub device_of : List ℕ → List Float → List Bool → Float → Device
device_of ids floats flags start =
    record {
      id = get_or ids 0 0;
      touches = touches_of ids floats flags;
      gesture_state = gesture_of floats flags start;
    }
