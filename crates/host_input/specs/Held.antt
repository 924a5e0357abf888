-- The input state that the host's arrays hold: `ts` are seconds, `fs` floats, `ns` counts, `bs` flags, `ks` the keys that are down.
-- Any contents mean some state.
use Rattle.std.specs.Prelude.{ℕ, ◌+◌, Bool, false, List, get_or, Float, Option}
use Rattle.std.specs.Bool.{then_some}
use Rattle.std.specs.Float.{nan}
use Rattle.model.specs.Types.{Pos2, Vec2, Modifiers, InputOptions, ButtonsDown, WheelState}
use Rattle.model.specs.Pointer.{buttons}
use Rattle.pointer_place.specs.declared.Place.{Place}
use Rattle.pointer_clicks.specs.declared.Held.{Held}
use Rattle.pointer_clicks.specs.declared.ClickPast.{ClickPast}
use Rattle.pointer_state.specs.declared.press.Press.{Press}
use Rattle.key_state.specs.declared.keys.Keys.{Keys}
use Rattle.input_state.specs.declared.clock.Clock.{Clock}
use Rattle.input_state.specs.declared.screen.Screen.{Screen}
use Rattle.input_state.specs.declared.pointer.Pointer.{Pointer}
use Rattle.input_state.specs.declared.sums.Sums.{Sums}
use Rattle.input_state.specs.declared.state.InputState.{InputState}
use Rattle.host_values.specs.Values.{status_of, source_of}
use Rattle.host_input.specs.Places as at

-- ---- values of several places
abbrev pub pos_at : List Float → ℕ → Pos2
pos_at fs i = record { x = get_or fs i nan; y = get_or fs (i + 1) nan }

abbrev pub vec_at : List Float → ℕ → Vec2
vec_at fs i = record { x = get_or fs i nan; y = get_or fs (i + 1) nan }

abbrev pub maybe_pos_at : Bool → List Float → ℕ → Option Pos2
maybe_pos_at given fs i = then_some given (pos_at fs i)

-- 01's order of the bits
abbrev pub modifiers_at : List Bool → ℕ → Modifiers
modifiers_at bs i =
    record {
      alt = get_or bs i false;
      ctrl = get_or bs (i + 1) false;
      shift = get_or bs (i + 2) false;
      mac_cmd = get_or bs (i + 3) false;
      command = get_or bs (i + 4) false;
    }

-- by their numbers; 02 A.7: how many are down is worked out
abbrev pub buttons_at : List Bool → ℕ → ButtonsDown
buttons_at bs i = buttons (get_or bs i false) (get_or bs (i + 1) false) (get_or bs (i + 2) false) (get_or bs (i + 3) false) (get_or bs (i + 4) false)

-- ---- the records
abbrev pub clock_of : List Float → List Float → Clock
clock_of ts fs =
    record {
      time = get_or ts at.time nan;
      pointer_time = get_or ts at.pointer_time nan;
      unstable_dt = get_or fs at.unstable_dt nan;
      stable_dt = get_or fs at.stable_dt nan;
      predicted_dt = get_or fs at.predicted_dt nan;
    }

abbrev pub options_of : List Float → List Float → List Bool → InputOptions
options_of ts fs bs =
    record {
      line_scroll_speed = get_or fs at.line_scroll_speed nan;
      scroll_zoom_speed = get_or fs at.scroll_zoom_speed nan;
      max_click_dist = get_or fs at.max_click_dist nan;
      max_click_duration = get_or ts at.max_click_duration nan;
      max_double_click_delay = get_or ts at.max_double_click_delay nan;
      zoom_modifier = modifiers_at bs at.zoom_modifier;
      horizontal_scroll_modifier = modifiers_at bs at.horizontal_scroll_modifier;
      vertical_scroll_modifier = modifiers_at bs at.vertical_scroll_modifier;
    }

abbrev pub screen_of : List Float → List Float → List Bool → Screen
screen_of ts fs bs =
    record {
      viewport_rect = record { min = pos_at fs at.viewport_min; max = pos_at fs at.viewport_max };
      pixels_per_point = get_or fs at.pixels_per_point nan;
      focused = get_or bs at.focused false;
      options = options_of ts fs bs;
    }

abbrev pub place_of : List Float → List ℕ → List Bool → Place
place_of fs ns bs =
    record {
      latest_pos = maybe_pos_at (get_or bs at.has_latest_pos false) fs at.latest_pos;
      interact_pos = maybe_pos_at (get_or bs at.has_interact_pos false) fs at.interact_pos;
      delta = vec_at fs at.delta;
      motion = then_some (get_or bs at.has_motion false) (vec_at fs at.motion);
      velocity = vec_at fs at.velocity;
      direction = vec_at fs at.direction;
      history = record { start = get_or ns at.history_start 0; len = get_or ns at.history_len 0 };
    }

abbrev pub held_of : List Float → List Float → List ℕ → List Bool → Held
held_of ts fs ns bs =
    record {
      down = buttons_at bs at.down;
      press_origin = maybe_pos_at (get_or bs at.has_press_origin false) fs at.press_origin;
      press_start_time = then_some (get_or bs at.has_press_start_time false) (get_or ts at.press_start_time nan);
      event_count = get_or ns at.event_count 0;
    }

abbrev pub past_of : List Float → List Float → List Bool → ClickPast
past_of ts fs bs =
    record {
      has_moved_too_much_for_a_click = get_or bs at.has_moved_too_much_for_a_click false;
      last_click_pos = maybe_pos_at (get_or bs at.has_last_click_pos false) fs at.last_click_pos;
      last_click_time = get_or ts at.last_click_time nan;
      last_last_click_time = get_or ts at.last_last_click_time nan;
    }

abbrev pub press_of : List Float → List Float → List ℕ → List Bool → Press
press_of ts fs ns bs = record { held = held_of ts fs ns bs; past = past_of ts fs bs }

abbrev pub pointer_of : List Float → List Float → List ℕ → List Bool → Pointer
pointer_of ts fs ns bs =
    record {
      place = place_of fs ns bs;
      press = press_of ts fs ns bs;
      started_decidedly_dragging = get_or bs at.started_decidedly_dragging false;
      last_move_time = then_some (get_or bs at.has_last_move_time false) (get_or ts at.last_move_time nan);
    }

abbrev pub wheel_of : List Float → List Float → List Bool → WheelState
wheel_of ts fs bs =
    record {
      status = status_of (get_or bs at.is_smoothing false) (get_or bs at.is_in_touch false);
      source = source_of (get_or bs at.is_wheel false) (get_or bs at.is_trackpad false) (get_or bs at.is_momentum false);
      modifiers = modifiers_at bs at.wheel_modifiers;
      last_wheel_event = get_or ts at.last_wheel_event nan;
      unprocessed_wheel_delta = vec_at fs at.unprocessed_wheel_delta;
      smooth_wheel_delta = vec_at fs at.smooth_wheel_delta;
    }

abbrev pub keys_of : List Bool → List ℕ → Keys
keys_of bs ks = record { down = record { words = ks }; modifiers = modifiers_at bs at.modifiers; feed_empty = get_or bs at.feed_empty false }

abbrev pub sums_of : List Float → Sums
sums_of fs =
    record {
      zoom_factor = get_or fs at.zoom_factor nan;
      zoom_exponent = get_or fs at.zoom_exponent nan;
      rotation_radians = get_or fs at.rotation_radians nan;
      smooth_scroll_delta = vec_at fs at.smooth_scroll_delta;
    }

abbrev pub input_of : List Float → List Float → List ℕ → List Bool → List ℕ → InputState
input_of ts fs ns bs ks =
    record {
      clock = clock_of ts fs;
      screen = screen_of ts fs bs;
      pointer = pointer_of ts fs ns bs;
      wheel = wheel_of ts fs bs;
      keys = keys_of bs ks;
      sums = sums_of fs;
    }
