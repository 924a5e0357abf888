-- A device's gesture in an image: its description, and a gesture as its value and back.
use Rattle.std.specs.Prelude.{ℕ, cond, eqb, Option}
use Rattle.std.specs.Option.{option_map}
use Rattle.data.specs.Numbers.{pinch_number}
use Rattle.data.specs.declared.touch.PinchType.{PinchType}
use Rattle.data.specs.declared.touch.PinchType.TheVariants.{Horizontal, Vertical, Proportional}
use Rattle.model.specs.Types.{DynGestureState, GestureState}
use Rattle.image.specs.Codes.{Code, word, single, double, both, maybe, El}
use Rattle.image_words.specs.Leaves.{any, upto}
use Rattle.image_options.specs.Options.{pair, pos_el, pos_of, vec_el, vec_of}

-- touch_state.rs's DynGestureState: avg_distance, avg_abs_distance2, avg_pos, avg_force, heading
abbrev pub averages_code : Code
averages_code = both (single any) (both pair (both pair (both (single any) pair)))

abbrev pub averages_el : DynGestureState → El averages_code
averages_el d = (d.avg_distance, (vec_el d.avg_abs_distance2, (pos_el d.avg_pos, (d.avg_force, vec_el d.heading))))

abbrev pub averages_of : El averages_code → DynGestureState
averages_of v =
    record {
      avg_distance = v.0;
      avg_abs_distance2 = vec_of v.1.0;
      avg_pos = pos_of v.1.1.0;
      avg_force = v.1.1.1.0;
      heading = vec_of v.1.1.1.1;
    }

-- those of the pass before, or none
abbrev pub previous_code : Code
previous_code = maybe averages_code

unfoldable pub previous_el : Option DynGestureState → El previous_code
previous_el d = option_map averages_el d

unfoldable pub previous_of : El previous_code → Option DynGestureState
previous_of v = option_map averages_of v

-- three pinches
abbrev pub max_pinch : ℕ
max_pinch = 2

unfoldable pub pinch_of : ℕ → PinchType
pinch_of w = cond (eqb w 0) Horizontal (cond (eqb w 1) Vertical Proportional)

-- start_time, start_pointer_pos, pinch_type
abbrev pub start_code : Code
start_code = both (double any) (both pair (word (upto max_pinch)))

abbrev pub start_el : GestureState → El start_code
start_el g = (g.start_time, (pos_el g.start_pointer_pos, pinch_number g.pinch_type))

abbrev pub fields_code : Code
fields_code = both start_code (both previous_code averages_code)

abbrev pub fields_el : GestureState → El fields_code
fields_el g = (start_el g, (previous_el g.previous, averages_el g.current))

abbrev pub fields_of : El fields_code → GestureState
fields_of v =
    record {
      start_time = v.0.0;
      start_pointer_pos = pos_of v.0.1.0;
      pinch_type = pinch_of v.0.1.1;
      previous = previous_of v.1.0;
      current = averages_of v.1.1;
    }

-- a gesture or none: 23 words
abbrev pub gesture_code : Code
gesture_code = maybe fields_code

unfoldable pub gesture_el : Option GestureState → El gesture_code
gesture_el g = option_map fields_el g

unfoldable pub gesture_of : El gesture_code → Option GestureState
gesture_of v = option_map fields_of v
