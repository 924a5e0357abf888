-- Reading an image by places, as code goes about it. Definitions only.
use Rattle.std.specs.Prelude.{ℕ, ◌+◌, ◌≡◌, cond, List, eqb, ltb, length, get_or, Option, None, Some}
use Rattle.data.specs.Limits.{max_events, max_devices, max_touches}
use Rattle.image.specs.Codes.{El}
use Rattle.image.specs.Places.{or_else, bad_at, value_at, span}
use Rattle.image_fixed.specs.Fixed.{fixed_end}
use Rattle.image_history.specs.History.{history_code}
use Rattle.image_events.specs.Events.{events_code}
use Rattle.image_devices.specs.Devices.{devices_code}
use Rattle.image_form.specs.Form.{first_word, panel_code, panel_of, Answer, taken, no_image, wrong, read_image}

-- the place of the first group
abbrev pub groups_place : ℕ
groups_place = 1

-- of the lists: groups 10 to 12
abbrev pub lists_place : ℕ
lists_place = fixed_end

-- each behind the one before it
abbrev pub events_place : List ℕ → ℕ
events_place ws = lists_place + span history_code ws lists_place

abbrev pub devices_place : List ℕ → ℕ
devices_place ws = events_place ws + span (events_code max_events) ws (events_place ws)

abbrev pub end_place : List ℕ → ℕ
end_place ws = devices_place ws + span (devices_code max_devices max_touches) ws (devices_place ws)

-- a word after the last group
abbrev pub end_bad : List ℕ → ℕ → Option ℕ
end_bad ws i = cond (ltb i (length ws)) (Some i) None

-- the first wrong word behind the first
unfoldable pub image_bad : List ℕ → Option ℕ
image_bad ws = or_else (bad_at panel_code ws groups_place) (end_bad ws (groups_place + span panel_code ws groups_place))

unfoldable pub answer : Option ℕ → El panel_code → Answer
answer None v = taken (panel_of v)
answer (Some i) v = wrong i

-- reading an image is asking by places
abbrev pub ReadsImage : Type 0
ReadsImage =
    (ws : List ℕ)
    → read_image ws ≡ cond (eqb first_word (get_or ws 0 0)) (answer (image_bad ws) (value_at panel_code ws groups_place)) no_image
