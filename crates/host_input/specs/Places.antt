-- The places of the input state's records in the host's arrays, by the fields' names: as src/places.rt.
use Rattle.std.specs.Prelude.{ℕ}

-- ---- `seconds`
abbrev pub time : ℕ
time = 0

abbrev pub pointer_time : ℕ
pointer_time = 1

abbrev pub max_click_duration : ℕ
max_click_duration = 2

abbrev pub max_double_click_delay : ℕ
max_double_click_delay = 3

abbrev pub press_start_time : ℕ
press_start_time = 4

abbrev pub last_click_time : ℕ
last_click_time = 5

abbrev pub last_last_click_time : ℕ
last_last_click_time = 6

abbrev pub last_move_time : ℕ
last_move_time = 7

abbrev pub last_wheel_event : ℕ
last_wheel_event = 8

-- ---- `floats`: a position or a vector is two places, x and y
abbrev pub unstable_dt : ℕ
unstable_dt = 0

abbrev pub stable_dt : ℕ
stable_dt = 1

abbrev pub predicted_dt : ℕ
predicted_dt = 2

abbrev pub viewport_min : ℕ
viewport_min = 3

abbrev pub viewport_max : ℕ
viewport_max = 5

abbrev pub pixels_per_point : ℕ
pixels_per_point = 7

abbrev pub line_scroll_speed : ℕ
line_scroll_speed = 8

abbrev pub scroll_zoom_speed : ℕ
scroll_zoom_speed = 9

abbrev pub max_click_dist : ℕ
max_click_dist = 10

abbrev pub latest_pos : ℕ
latest_pos = 11

abbrev pub interact_pos : ℕ
interact_pos = 13

abbrev pub delta : ℕ
delta = 15

abbrev pub motion : ℕ
motion = 17

abbrev pub velocity : ℕ
velocity = 19

abbrev pub direction : ℕ
direction = 21

abbrev pub press_origin : ℕ
press_origin = 23

abbrev pub last_click_pos : ℕ
last_click_pos = 25

abbrev pub unprocessed_wheel_delta : ℕ
unprocessed_wheel_delta = 27

abbrev pub smooth_wheel_delta : ℕ
smooth_wheel_delta = 29

abbrev pub zoom_factor : ℕ
zoom_factor = 31

abbrev pub zoom_exponent : ℕ
zoom_exponent = 32

abbrev pub rotation_radians : ℕ
rotation_radians = 33

abbrev pub smooth_scroll_delta : ℕ
smooth_scroll_delta = 34

-- ---- `counts`
abbrev pub history_start : ℕ
history_start = 0

abbrev pub history_len : ℕ
history_len = 1

abbrev pub event_count : ℕ
event_count = 2

abbrev pub devices : ℕ
devices = 3

-- ---- `flags`: modifiers are five places, in 01's order of the bits, and so are the buttons; of an Option, whether there is a value
abbrev pub focused : ℕ
focused = 0

abbrev pub zoom_modifier : ℕ
zoom_modifier = 1

abbrev pub horizontal_scroll_modifier : ℕ
horizontal_scroll_modifier = 6

abbrev pub vertical_scroll_modifier : ℕ
vertical_scroll_modifier = 11

abbrev pub has_latest_pos : ℕ
has_latest_pos = 16

abbrev pub has_interact_pos : ℕ
has_interact_pos = 17

abbrev pub has_motion : ℕ
has_motion = 18

abbrev pub down : ℕ
down = 19

abbrev pub has_press_origin : ℕ
has_press_origin = 24

abbrev pub has_press_start_time : ℕ
has_press_start_time = 25

abbrev pub has_moved_too_much_for_a_click : ℕ
has_moved_too_much_for_a_click = 26

abbrev pub has_last_click_pos : ℕ
has_last_click_pos = 27

abbrev pub started_decidedly_dragging : ℕ
started_decidedly_dragging = 28

abbrev pub has_last_move_time : ℕ
has_last_move_time = 29

abbrev pub wheel_modifiers : ℕ
wheel_modifiers = 30

abbrev pub is_smoothing : ℕ
is_smoothing = 35

abbrev pub is_in_touch : ℕ
is_in_touch = 36

abbrev pub is_wheel : ℕ
is_wheel = 37

abbrev pub is_trackpad : ℕ
is_trackpad = 38

abbrev pub is_momentum : ℕ
is_momentum = 39

abbrev pub modifiers : ℕ
modifiers = 40

abbrev pub feed_empty : ℕ
feed_empty = 45

-- ---- how many floats and flags there are
abbrev pub float_count : ℕ
float_count = 36

abbrev pub flag_count : ℕ
flag_count = 46
