-- Group 4, buttons, presses and clicks: its code, the value that stands for the model's record without its events, and back.
use Rattle.std.specs.Prelude.{ℕ, ◌+◌, ◌*◌, Bool, List, Option, Float}
use Rattle.data.specs.Bits.{bit_number, bit_of}
use Rattle.model.specs.Types.{ButtonsDown, PointerEvent}
use Rattle.model.specs.Pointer.{Press, buttons}
use Rattle.image.specs.Codes.{Code, double, both, group, El}
use Rattle.image_words.specs.Leaves.{any}
use Rattle.image_options.specs.Options.{boolean, boolean_of, flags, maybe_pair, maybe_time, maybe_pos_el, maybe_pos_of, maybe_time_el, maybe_time_of}

-- the place of its leading word
abbrev pub press_place : ℕ
press_place = 42

-- bit k is button k
unfoldable pub buttons_number : ButtonsDown → ℕ
buttons_number d =
    bit_number d.primary + 2 * bit_number d.secondary + 4 * bit_number d.middle + 8 * bit_number d.extra1 + 16 * bit_number d.extra2

-- 02 A.7: their number is not among the words
unfoldable pub buttons_of : ℕ → ButtonsDown
buttons_of w = buttons (bit_of 1 w) (bit_of 2 w) (bit_of 4 w) (bit_of 8 w) (bit_of 16 w)

-- down, press_origin, press_start_time; has_moved_too_much_for_a_click, last_click_pos, last_click_time, last_last_click_time;
-- started_decidedly_dragging; 02 A.4: last_move_time. Before the first click its time is an infinity
abbrev pub press_code : Code
press_code =
    group 4 (both flags (both maybe_pair (both maybe_time (both boolean (both maybe_pair (both (double any) (both (double any) (both boolean maybe_time))))))))

abbrev pub press_el : Press → Bool → Option Float → El press_code
press_el p started moved = (
  buttons_number p.held.down,
  (
    maybe_pos_el p.held.press_origin,
    (
      maybe_time_el p.held.press_start_time,
      (
        bit_number p.past.has_moved_too_much_for_a_click,
        (
          maybe_pos_el p.past.last_click_pos,
          (
            p.past.last_click_time,
            (
              p.past.last_last_click_time,
              (bit_number started, maybe_time_el moved),
            ),
          ),
        ),
      ),
    ),
  ),
)

abbrev pub press_of : El press_code → List PointerEvent → Press
press_of v events =
    record {
      held =
          record { down = buttons_of v.0; press_origin = maybe_pos_of v.1.0; press_start_time = maybe_time_of v.1.1.0; pointer_events = events };
      past =
          record {
            has_moved_too_much_for_a_click = boolean_of v.1.1.1.0;
            last_click_pos = maybe_pos_of v.1.1.1.1.0;
            last_click_time = v.1.1.1.1.1.0;
            last_last_click_time = v.1.1.1.1.1.1.0;
          };
    }

abbrev pub started_of : El press_code → Bool
started_of v = boolean_of v.1.1.1.1.1.1.1.0

abbrev pub moved_of : El press_code → Option Float
moved_of v = maybe_time_of v.1.1.1.1.1.1.1.1
