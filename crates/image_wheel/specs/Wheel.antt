-- Group 5, the wheel: its code, the value that stands for the record, and back.
use Rattle.std.specs.Prelude.{ℕ, cond, eqb}
use Rattle.data.specs.Modifiers.{modifiers_number, modifiers_of}
use Rattle.data.specs.Numbers.{status_number, source_number}
use Rattle.feed.specs.Shape.{source_of}
use Rattle.model.specs.Types.{WheelState, Status, Static, Smoothing, InTouch}
use Rattle.image.specs.Codes.{Code, word, double, both, group, El}
use Rattle.image_words.specs.Leaves.{any, upto}
use Rattle.image_options.specs.Options.{flags, pair, vec_el, vec_of}

-- the place of its leading word
abbrev pub wheel_place : ℕ
wheel_place = 62

-- three statuses, four sources
abbrev pub max_status : ℕ
max_status = 2

abbrev pub max_source : ℕ
max_source = 3

-- status, source, modifiers, last_wheel_event (an infinity before the first), unprocessed_wheel_delta, smooth_wheel_delta
abbrev pub wheel_code : Code
wheel_code = group 5 (both (word (upto max_status)) (both (word (upto max_source)) (both flags (both (double any) (both pair pair)))))

unfoldable pub status_of : ℕ → Status
status_of n = cond (eqb n 0) Static (cond (eqb n 1) Smoothing InTouch)

abbrev pub wheel_el : WheelState → El wheel_code
wheel_el w = (
  status_number w.status,
  (
    source_number w.source,
    (
      modifiers_number w.modifiers,
      (w.last_wheel_event, (vec_el w.unprocessed_wheel_delta, vec_el w.smooth_wheel_delta)),
    ),
  ),
)

abbrev pub wheel_of : El wheel_code → WheelState
wheel_of v =
    record {
      status = status_of v.0;
      source = source_of v.1.0;
      modifiers = modifiers_of v.1.1.0;
      last_wheel_event = v.1.1.1.0;
      unprocessed_wheel_delta = vec_of v.1.1.1.1.0;
      smooth_wheel_delta = vec_of v.1.1.1.1.1;
    }
