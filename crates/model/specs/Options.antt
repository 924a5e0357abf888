-- `Default for InputOptions`. Definitions only.
use Rattle.std.specs.Prelude.{true, false}
use Rattle.std.specs.Float.{binary32, binary64}
use Rattle.std.specs.Float.Ieee.{of_bits}
use Rattle.model.specs.Types.{InputOptions}

-- 40, 1/200, 6, 0.8 s, 0.3 s; command, shift, alt
unfoldable pub default_options : InputOptions
default_options =
    record {
      line_scroll_speed = of_bits binary32 0x4220_0000;
      scroll_zoom_speed = of_bits binary32 0x3ba3_d70a;
      max_click_dist = of_bits binary32 0x40c0_0000;
      max_click_duration = of_bits binary64 0x3fe9_9999_9999_999a;
      max_double_click_delay = of_bits binary64 0x3fd3_3333_3333_3333;
      zoom_modifier = record { alt = false; ctrl = false; shift = false; mac_cmd = false; command = true };
      horizontal_scroll_modifier = record { alt = false; ctrl = false; shift = true; mac_cmd = false; command = false };
      vertical_scroll_modifier = record { alt = true; ctrl = false; shift = false; mac_cmd = false; command = false };
    }
