-- The sums over the touches of `calc_dynamic_state`, in the model's terms, and the two steps of a gesture.
use Rattle.std.specs.Prelude.{List, None, Some}
use Rattle.emath.specs.Vec.{vec_zero, pos_zero}
use Rattle.model.specs.Numbers.{+0}
use Rattle.model.specs.Types.{Pos2, ActiveTouch, DynGestureState, GestureState}
use Rattle.model.specs.Touch.{sum_force, sum_pos, sum_distance, sum_abs_distance2}
use Rattle.gesture.specs.declared.Sums.{Sums}
use Rattle.gesture.specs.declared.Spreads.{Spreads}

-- the first pass over the touches: "calculate force and center"
abbrev pub sums_of : List ActiveTouch → Sums
sums_of us = record { force = sum_force +0 us; pos = sum_pos pos_zero us }

-- the second pass: "calculate distances from center"
abbrev pub spreads_of : Pos2 → List ActiveTouch → Spreads
spreads_of c us = record { distance = sum_distance c +0 us; abs_distance2 = sum_abs_distance2 c vec_zero us }

-- an ongoing gesture with new averages
unfoldable pub gone_on : GestureState → DynGestureState → GestureState
gone_on g a =
    record { start_time = g.start_time; start_pointer_pos = g.start_pointer_pos; pinch_type = g.pinch_type; previous = Some g.current; current = a }

-- a gesture without its previous averages
unfoldable pub forgotten : GestureState → GestureState
forgotten g =
    record { start_time = g.start_time; start_pointer_pos = g.start_pointer_pos; pinch_type = g.pinch_type; previous = None; current = g.current }
