-- What the first 18 words of a PASS say (compare/FORMAT.md); its feed is the words after them.
use Rattle.std.specs.Prelude.{ℕ, ◌/◌, cond, List, Option, None, Some, Float}
use Rattle.emath.specs.declared.rect.Rect.{Rect}
use Rattle.data.specs.Bits.{bit_of}
use Rattle.data.specs.Modifiers.{modifiers_of}
use Rattle.model.specs.Types.{InputOptions}
use Rattle.input_state.specs.declared.input.PassInput.{PassInput}
use Rattle.trace_words.specs.Request.{word_at, float_at, seconds_at}

-- "18, then the feed"
abbrev pub pass_words : ℕ
pass_words = 18

-- "bit 0 time given", "1, 2 time, f64"
unfoldable pub time_given : List ℕ → Option Float
time_given w = cond (bit_of 1 (word_at w 0)) (Some (seconds_at w 1 2)) None

-- "1 screen rectangle given", "6–9 screen rectangle: min x, min y, max x, max y"
abbrev pub rect_at : List ℕ → Rect
rect_at w = record { min = record { x = float_at w 6; y = float_at w 7 }; max = record { x = float_at w 8; y = float_at w 9 } }

unfoldable pub rect_given : List ℕ → Option Rect
rect_given w = cond (bit_of 2 (word_at w 0)) (Some (rect_at w)) None

-- 10 to 16, and "17 zoom modifier (bits 0–4), horizontal (5–9), vertical (10–14)"
unfoldable pub options_given : List ℕ → InputOptions
options_given w =
    record {
      line_scroll_speed = float_at w 10;
      scroll_zoom_speed = float_at w 11;
      max_click_dist = float_at w 12;
      max_click_duration = seconds_at w 13 14;
      max_double_click_delay = seconds_at w 15 16;
      zoom_modifier = modifiers_of (word_at w 17);
      horizontal_scroll_modifier = modifiers_of (word_at w 17 / 32);
      vertical_scroll_modifier = modifiers_of (word_at w 17 / 1024);
    }

-- 3 to 5, and in word 0 "2 focused, 3 a repaint was requested in the pass before"
unfoldable pub pass_input : List ℕ → PassInput
pass_input w =
    record {
      time = time_given w;
      screen_rect = rect_given w;
      predicted_dt = float_at w 3;
      smoothing_factor = float_at w 4;
      pixels_per_point = float_at w 5;
      focused = bit_of 4 (word_at w 0);
      requested_repaint = bit_of 8 (word_at w 0);
      options = options_given w;
    }
