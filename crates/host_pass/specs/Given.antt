-- What a pass is given by the host, and what it answers the host.
use Rattle.std.specs.Prelude.{ℕ, Bool, Float, Option, None, Some}
use Rattle.std.specs.Bool.{then_some}
use Rattle.data.specs.Numbers.{pass_refusal_number}
use Rattle.data.specs.Modifiers.{modifiers_of}
use Rattle.model.specs.Types.{PassRefusal, Malformed, OutsideDomain, TimeBelow, TooManyEvents, NoPlace}
use Rattle.emath.specs.declared.rect.Rect.{Rect}
use Rattle.input_state.specs.declared.input.PassInput.{PassInput}
use Rattle.host_pass.specs.declared.HostPass.{HostPass}
use Rattle.host_pass.specs.declared.HostRefusal.{HostRefusal}

abbrev pub rect_of : Bool → Float → Float → Float → Float → Option Rect
rect_of given a b c d = then_some given (record { min = record { x = a; y = b }; max = record { x = c; y = d } })

abbrev pub given_of : HostPass → PassInput
given_of g =
    record {
      time = then_some g.time_given g.time;
      screen_rect = rect_of g.screen_rect_given g.min_x g.min_y g.max_x g.max_y;
      predicted_dt = g.predicted_dt;
      smoothing_factor = g.smoothing_factor;
      pixels_per_point = g.pixels_per_point;
      focused = g.focused;
      requested_repaint = g.requested_repaint;
      options =
          record {
            line_scroll_speed = g.line_scroll_speed;
            scroll_zoom_speed = g.scroll_zoom_speed;
            max_click_dist = g.max_click_dist;
            max_click_duration = g.max_click_duration;
            max_double_click_delay = g.max_double_click_delay;
            zoom_modifier = modifiers_of g.zoom_modifier;
            horizontal_scroll_modifier = modifiers_of g.horizontal_scroll_modifier;
            vertical_scroll_modifier = modifiers_of g.vertical_scroll_modifier;
          };
    }

-- the index that 01 returns with a refusal; 0 where it returns none
abbrev pub index_of : PassRefusal → ℕ
index_of (Malformed i) = i
index_of (OutsideDomain i) = i
index_of TimeBelow = 0
index_of (TooManyEvents i) = i
index_of (NoPlace i) = i

-- 01's number and index
abbrev pub refusal_of : PassRefusal → HostRefusal
refusal_of q = record { number = pass_refusal_number q; index = index_of q }

-- 0 and 0 where it is taken
abbrev pub answer_of : Option PassRefusal → HostRefusal
answer_of None = record { number = 0; index = 0 }
answer_of (Some q) = refusal_of q
