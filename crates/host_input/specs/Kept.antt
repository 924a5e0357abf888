-- What is written of an input state to the host's arrays: each place of Places.antt in turn. Of an Option that is none, any value.
use Rattle.std.specs.Prelude.{ℕ, ◌+◌, Bool, List, [], ◌∷◌, set, Float, Option, is_some}
use Rattle.std.specs.Option.{unwrap_or}
use Rattle.emath.specs.Vec.{pos_zero, vec_zero}
use Rattle.model.specs.Types.{Pos2, Modifiers, InputOptions, ButtonsDown, WheelState}
use Rattle.pointer_place.specs.declared.Place.{Place}
use Rattle.input_state.specs.declared.screen.Screen.{Screen}
use Rattle.input_state.specs.declared.sums.Sums.{Sums}
use Rattle.input_state.specs.declared.state.InputState.{InputState}
use Rattle.host_input.specs.Places as at
use Rattle.host_values.specs.Values.{is_smoothing, is_in_touch, is_wheel, is_trackpad, is_momentum}

abbrev pub seconds_of : InputState → List Float
seconds_of s =
    s.clock.time ∷
    s.clock.pointer_time ∷
    s.screen.options.max_click_duration ∷
    s.screen.options.max_double_click_delay ∷
    (unwrap_or s.pointer.press.held.press_start_time s.clock.time) ∷
    s.pointer.press.past.last_click_time ∷
    s.pointer.press.past.last_last_click_time ∷
    (unwrap_or s.pointer.last_move_time s.clock.time) ∷
    s.wheel.last_wheel_event ∷
    []

abbrev pub floats_of : InputState → List Float
floats_of s =
    s.clock.unstable_dt ∷
    s.clock.stable_dt ∷
    s.clock.predicted_dt ∷
    s.screen.viewport_rect.min.x ∷
    s.screen.viewport_rect.min.y ∷
    s.screen.viewport_rect.max.x ∷
    s.screen.viewport_rect.max.y ∷
    s.screen.pixels_per_point ∷
    s.screen.options.line_scroll_speed ∷
    s.screen.options.scroll_zoom_speed ∷
    s.screen.options.max_click_dist ∷
    (unwrap_or s.pointer.place.latest_pos pos_zero).x ∷
    (unwrap_or s.pointer.place.latest_pos pos_zero).y ∷
    (unwrap_or s.pointer.place.interact_pos pos_zero).x ∷
    (unwrap_or s.pointer.place.interact_pos pos_zero).y ∷
    s.pointer.place.delta.x ∷
    s.pointer.place.delta.y ∷
    (unwrap_or s.pointer.place.motion vec_zero).x ∷
    (unwrap_or s.pointer.place.motion vec_zero).y ∷
    s.pointer.place.velocity.x ∷
    s.pointer.place.velocity.y ∷
    s.pointer.place.direction.x ∷
    s.pointer.place.direction.y ∷
    (unwrap_or s.pointer.press.held.press_origin pos_zero).x ∷
    (unwrap_or s.pointer.press.held.press_origin pos_zero).y ∷
    (unwrap_or s.pointer.press.past.last_click_pos pos_zero).x ∷
    (unwrap_or s.pointer.press.past.last_click_pos pos_zero).y ∷
    s.wheel.unprocessed_wheel_delta.x ∷
    s.wheel.unprocessed_wheel_delta.y ∷
    s.wheel.smooth_wheel_delta.x ∷
    s.wheel.smooth_wheel_delta.y ∷
    s.sums.zoom_factor ∷
    s.sums.zoom_exponent ∷
    s.sums.rotation_radians ∷
    s.sums.smooth_scroll_delta.x ∷
    s.sums.smooth_scroll_delta.y ∷
    []

-- how many devices are known stands last
abbrev pub counts_of : InputState → ℕ → List ℕ
counts_of s devices = s.pointer.place.history.start ∷ s.pointer.place.history.len ∷ s.pointer.press.held.event_count ∷ devices ∷ []

abbrev pub flags_of : InputState → List Bool
flags_of s =
    s.screen.focused ∷
    s.screen.options.zoom_modifier.alt ∷
    s.screen.options.zoom_modifier.ctrl ∷
    s.screen.options.zoom_modifier.shift ∷
    s.screen.options.zoom_modifier.mac_cmd ∷
    s.screen.options.zoom_modifier.command ∷
    s.screen.options.horizontal_scroll_modifier.alt ∷
    s.screen.options.horizontal_scroll_modifier.ctrl ∷
    s.screen.options.horizontal_scroll_modifier.shift ∷
    s.screen.options.horizontal_scroll_modifier.mac_cmd ∷
    s.screen.options.horizontal_scroll_modifier.command ∷
    s.screen.options.vertical_scroll_modifier.alt ∷
    s.screen.options.vertical_scroll_modifier.ctrl ∷
    s.screen.options.vertical_scroll_modifier.shift ∷
    s.screen.options.vertical_scroll_modifier.mac_cmd ∷
    s.screen.options.vertical_scroll_modifier.command ∷
    (is_some s.pointer.place.latest_pos) ∷
    (is_some s.pointer.place.interact_pos) ∷
    (is_some s.pointer.place.motion) ∷
    s.pointer.press.held.down.primary ∷
    s.pointer.press.held.down.secondary ∷
    s.pointer.press.held.down.middle ∷
    s.pointer.press.held.down.extra1 ∷
    s.pointer.press.held.down.extra2 ∷
    (is_some s.pointer.press.held.press_origin) ∷
    (is_some s.pointer.press.held.press_start_time) ∷
    s.pointer.press.past.has_moved_too_much_for_a_click ∷
    (is_some s.pointer.press.past.last_click_pos) ∷
    s.pointer.started_decidedly_dragging ∷
    (is_some s.pointer.last_move_time) ∷
    s.wheel.modifiers.alt ∷
    s.wheel.modifiers.ctrl ∷
    s.wheel.modifiers.shift ∷
    s.wheel.modifiers.mac_cmd ∷
    s.wheel.modifiers.command ∷
    (is_smoothing s.wheel.status) ∷
    (is_in_touch s.wheel.status) ∷
    (is_wheel s.wheel.source) ∷
    (is_trackpad s.wheel.source) ∷
    (is_momentum s.wheel.source) ∷
    s.keys.modifiers.alt ∷
    s.keys.modifiers.ctrl ∷
    s.keys.modifiers.shift ∷
    s.keys.modifiers.mac_cmd ∷
    s.keys.modifiers.command ∷
    s.keys.feed_empty ∷
    []

abbrev pub keys_of : InputState → List ℕ
keys_of s = s.keys.down.words

-- ---- the floats of a part, from place i on or at the places of Places.antt
abbrev pub with_pair : ℕ → Float → Float → List Float → List Float
with_pair i x y fs = set (set fs i x) (i + 1) y

abbrev pub with_pos : ℕ → Option Pos2 → List Float → List Float
with_pos i p fs = with_pair i (unwrap_or p pos_zero).x (unwrap_or p pos_zero).y fs

abbrev pub with_screen : Screen → List Float → List Float
with_screen s fs =
    set
    (set
    (set
    (set
    (with_pair at.viewport_max s.viewport_rect.max.x s.viewport_rect.max.y (with_pair at.viewport_min s.viewport_rect.min.x s.viewport_rect.min.y fs))
    at.pixels_per_point s.pixels_per_point)
    at.line_scroll_speed s.options.line_scroll_speed)
    at.scroll_zoom_speed s.options.scroll_zoom_speed)
    at.max_click_dist s.options.max_click_dist

abbrev pub with_place : Place → List Float → List Float
with_place p fs =
    with_pair at.direction p.direction.x p.direction.y
    (with_pair at.velocity p.velocity.x p.velocity.y
    (with_pair at.motion (unwrap_or p.motion vec_zero).x (unwrap_or p.motion vec_zero).y
    (with_pair at.delta p.delta.x p.delta.y
    (with_pos at.interact_pos p.interact_pos (with_pos at.latest_pos p.latest_pos fs)))))

abbrev pub with_wheel : WheelState → List Float → List Float
with_wheel w fs =
    with_pair at.smooth_wheel_delta w.smooth_wheel_delta.x w.smooth_wheel_delta.y
    (with_pair at.unprocessed_wheel_delta w.unprocessed_wheel_delta.x w.unprocessed_wheel_delta.y fs)

abbrev pub with_sums : Sums → List Float → List Float
with_sums s fs =
    with_pair at.smooth_scroll_delta s.smooth_scroll_delta.x s.smooth_scroll_delta.y
    (set (set (set fs at.zoom_factor s.zoom_factor) at.zoom_exponent s.zoom_exponent) at.rotation_radians s.rotation_radians)

-- ---- the flags of a part, five from place i on or at the places of Places.antt
abbrev pub with_modifiers : Modifiers → ℕ → List Bool → List Bool
with_modifiers m i bs = set (set (set (set (set bs i m.alt) (i + 1) m.ctrl) (i + 2) m.shift) (i + 3) m.mac_cmd) (i + 4) m.command

abbrev pub with_buttons : ButtonsDown → ℕ → List Bool → List Bool
with_buttons d i bs = set (set (set (set (set bs i d.primary) (i + 1) d.secondary) (i + 2) d.middle) (i + 3) d.extra1) (i + 4) d.extra2

abbrev pub with_options : InputOptions → List Bool → List Bool
with_options o bs =
    with_modifiers o.vertical_scroll_modifier at.vertical_scroll_modifier
    (with_modifiers o.horizontal_scroll_modifier at.horizontal_scroll_modifier (with_modifiers o.zoom_modifier at.zoom_modifier bs))

abbrev pub with_status : WheelState → List Bool → List Bool
with_status w bs =
    set
    (set
    (set
    (set
    (set (with_modifiers w.modifiers at.wheel_modifiers bs) at.is_smoothing (is_smoothing w.status))
    at.is_in_touch (is_in_touch w.status))
    at.is_wheel (is_wheel w.source))
    at.is_trackpad (is_trackpad w.source))
    at.is_momentum (is_momentum w.source)
