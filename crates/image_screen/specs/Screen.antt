-- Group 2, the screen and the options: its code, the value that stands for the model's record, and back.
use Rattle.std.specs.Prelude.{ℕ, T}
use Rattle.data.specs.Bits.{bit_number}
use Rattle.data.specs.Limits.{coordinate_ok, length_ok, unit_interval_ok, duration_ok, scale_ok, rect_ok, options_ok}
use Rattle.data.specs.Modifiers.{modifiers_number, modifiers_of}
use Rattle.model.specs.Types.{Rect, InputOptions}
use Rattle.model.specs.Pass.{Screen}
use Rattle.image.specs.Codes.{Code, single, double, both, group, El}
use Rattle.image_options.specs.Options.{boolean, boolean_of, flags}

-- the places of the leading word, of the rectangle and of the options
abbrev pub screen_place : ℕ
screen_place = 9

abbrev pub rect_place : ℕ
rect_place = 10

abbrev pub options_place : ℕ
options_place = 16

-- "rectangle edges": min, then max
abbrev pub rect_code : Code
rect_code = both (single coordinate_ok) (both (single coordinate_ok) (both (single coordinate_ok) (single coordinate_ok)))

abbrev pub rect_el : Rect → El rect_code
rect_el r = (r.min.x, (r.min.y, (r.max.x, r.max.y)))

abbrev pub rect_of : El rect_code → Rect
rect_of v = record { min = record { x = v.0; y = v.1.0 }; max = record { x = v.1.1.0; y = v.1.1.1 } }

-- "Options: line speed and click distance 0 to 65,536; zoom speed 0 to 1; both durations 0 to 3,600 s", then three words of flags
abbrev pub options_code : Code
options_code =
    both (single length_ok) (both (single unit_interval_ok) (both (single length_ok) (both (double duration_ok) (both (double duration_ok) (both flags (both flags flags))))))

abbrev pub options_el : InputOptions → El options_code
options_el o = (
  o.line_scroll_speed,
  (
    o.scroll_zoom_speed,
    (
      o.max_click_dist,
      (
        o.max_click_duration,
        (
          o.max_double_click_delay,
          (modifiers_number o.zoom_modifier, (modifiers_number o.horizontal_scroll_modifier, modifiers_number o.vertical_scroll_modifier)),
        ),
      ),
    ),
  ),
)

abbrev pub options_of : El options_code → InputOptions
options_of v =
    record {
      line_scroll_speed = v.0;
      scroll_zoom_speed = v.1.0;
      max_click_dist = v.1.1.0;
      max_click_duration = v.1.1.1.0;
      max_double_click_delay = v.1.1.1.1.0;
      zoom_modifier = modifiers_of v.1.1.1.1.1.0;
      horizontal_scroll_modifier = modifiers_of v.1.1.1.1.1.1.0;
      vertical_scroll_modifier = modifiers_of v.1.1.1.1.1.1.1;
    }

abbrev pub screen_code : Code
screen_code = group 2 (both rect_code (both (single scale_ok) (both boolean options_code)))

abbrev pub screen_el : Screen → El screen_code
screen_el s = (rect_el s.viewport_rect, (s.pixels_per_point, (bit_number s.focused, options_el s.options)))

abbrev pub screen_of : El screen_code → Screen
screen_of v = record { viewport_rect = rect_of v.0; pixels_per_point = v.1.0; focused = boolean_of v.1.1.0; options = options_of v.1.1.1 }

-- what is known of the screen of a panel that the operations gave
abbrev pub ScreenOk : Screen → Type 0
ScreenOk s = T (rect_ok s.viewport_rect) × T (scale_ok s.pixels_per_point) × T (options_ok s.options)
