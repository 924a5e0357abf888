-- What can be asked of a panel. Definitions only.
-- No question tells has_moved_too_much_for_a_click, or the last clicks' position and times: they are state.
use Rattle.std.specs.Prelude.{ℕ, Bool, true, false, not, ◌&&◌, ◌||◌, cond, List, [], ◌∷◌, ltb, eqb, Float, Option, None, Some}
use Rattle.std.specs.Float.{binary32, binary64}
use Rattle.std.specs.Float.Ieee.{sub, div, lt}
use Rattle.ieee_narrow.specs.Narrow.{narrow}
use Rattle.emath.specs.Vec.{vec_zero, vec_ne, pos_sub, vec_abs, max_elem}
use Rattle.data.specs.Modifiers.{matches_any}
use Rattle.data.specs.Numbers.{button_number}
use Rattle.model.specs.Numbers.{+0, one, fifth}
use Rattle.model.specs.Types.{Pos2, Vec2, Rect, Modifiers, InputOptions}
use Rattle.model.specs.Types.{PointerButton, PointerEvent, Moved, Pressed, Released, WheelState}
use Rattle.model.specs.Types.{MouseWheelSource, Rotation, Radians, Headings, MultiTouchInfo}
use Rattle.model.specs.Pointer.{Place, Held, any, is_press, is_release, is_click}
use Rattle.model.specs.Pointer as Pointer
use Rattle.model.specs.Touch.{find_device, info_at, any_touches_at}
use Rattle.model.specs.Touch as Touch
use Rattle.model.specs.Wheel as Scroll
use Rattle.model.specs.Pass.{Panel, Clock, Screen, Keys, Sums, Interaction, decidedly_dragging}
use Rattle.model.specs.Interact.{long_press, could_click, has_pos}

-- ---- the questions, with their arguments: a key's place, a button, a device id

-- those that panels agree on from the pass after a clearing pass on
pub data Settled : Type 0 where
  -- InputState
  time unstable_dt predicted_dt stable_dt focused modifiers viewport_rect pixels_per_point physical_pixel_size aim_radius : Settled
  smooth_scroll_delta zoom_delta zoom_delta_2d rotation_delta translation_delta is_scrolling scroll_source time_since_last_scroll wants_repaint_after : Settled
  key_down key_pressed num_presses : ℕ → Settled
  feed_was_empty any_touches is_long_touch multi_touch : Settled
  -- TouchState, by device id
  info_of_device any_touches_of_device : ℕ → Settled
  -- PointerState
  delta motion velocity direction press_origin total_drag_delta press_start_time latest_pos hover_pos interact_pos has_pointer is_still is_moving : Settled
  any_pressed any_released any_down any_click could_any_button_be_click is_decidedly_dragging is_long_press pointer_events : Settled
  button_pressed button_released button_clicked button_double_clicked button_triple_clicked button_down : PointerButton → Settled
  -- the interaction
  dragged potential_click_id potential_drag_id : Settled

pub data Question : Type 0 where
  settled : Settled → Question
  -- those that may differ for longer
  time_since_last_click time_since_last_movement has_touch_screen tally : Question

pub data Reply : Type 0 where
  bool : Bool → Reply
  count : ℕ → Reply
  number : Float → Reply
  vector : Vec2 → Reply
  maybe_vector : Option Vec2 → Reply
  maybe_position : Option Pos2 → Reply
  -- seconds, f64
  maybe_seconds : Option Float → Reply
  -- seconds, f32
  maybe_number : Option Float → Reply
  rectangle : Rect → Reply
  flags : Modifiers → Reply
  source : Option MouseWheelSource → Reply
  -- factor and exponent, of the whole and by axis
  zoom : Float → Float → Reply
  zoom_2d : Vec2 → Vec2 → Reply
  rotation : Rotation → Reply
  gesture : Option MultiTouchInfo → Reply
  events : List PointerEvent → Reply
  widget : Option ℕ → Reply

-- ---- what a panel shows: all that the settled questions read
pub record Shown : Type 0 where
  pub clock : Clock
  pub screen : Screen
  pub place : Place
  pub held : Held
  pub wheel : WheelState
  pub keys : Keys
  pub sums : Sums
  pub interaction : Interaction
  pub could_be_click : Bool
  pub decidedly_dragging : Bool
  pub long_press : Bool
  pub multi_touch : Option MultiTouchInfo
  pub any_touches : Bool
  -- by device id
  pub info : ℕ → Option MultiTouchInfo
  pub touched : ℕ → Bool

unfoldable pub shown : Panel → Shown
shown p =
    record {
      clock = p.clock;
      screen = p.screen;
      place = p.place;
      held = p.press.held;
      wheel = p.wheel;
      keys = p.keys;
      sums = p.sums;
      interaction = p.interaction;
      could_be_click = could_click p;
      decidedly_dragging = decidedly_dragging p.clock p.screen p.press;
      long_press = long_press p;
      multi_touch = Touch.multi_touch p.touch_states;
      any_touches = Touch.any_touches p.touch_states;
      info = λ d. info_at (find_device d p.touch_states);
      touched = λ d. any_touches_at (find_device d p.touch_states);
    }

-- 01 item 6: "With a gesture, zooms, rotation and translation are those of the first device by id that has one, and the exponent is 0."
unfoldable pub zoom_reply : Option MultiTouchInfo → Sums → Reply
zoom_reply None s = zoom s.zoom_factor s.zoom_exponent
zoom_reply (Some g) s = zoom g.zoom_delta +0

-- "a suppressed axis has factor 1 and exponent 0": is_horizontal, is_vertical
unfoldable pub zoom_by_axis : Bool → Bool → Float → Float → Reply
zoom_by_axis true false z e = zoom_2d (record { x = z; y = one }) (record { x = e; y = +0 })
zoom_by_axis false true z e = zoom_2d (record { x = one; y = z }) (record { x = +0; y = e })
zoom_by_axis true true z e = zoom_2d (record { x = z; y = z }) (record { x = e; y = e })
zoom_by_axis false false z e = zoom_2d (record { x = z; y = z }) (record { x = e; y = e })

unfoldable pub zoom_2d_reply : Option MultiTouchInfo → Sums → Modifiers → InputOptions → Reply
zoom_2d_reply None s m o =
    zoom_by_axis (matches_any m o.horizontal_scroll_modifier) (matches_any m o.vertical_scroll_modifier) s.zoom_factor s.zoom_exponent
zoom_2d_reply (Some g) s m o = zoom_2d g.zoom_delta_2d vec_zero

unfoldable pub rotation_reply : Option MultiTouchInfo → Sums → Rotation
rotation_reply None s = Radians s.rotation_radians
rotation_reply (Some g) s = Headings g.previous_heading g.heading

unfoldable pub translation_reply : Option MultiTouchInfo → Sums → Vec2
translation_reply None s = s.smooth_scroll_delta
translation_reply (Some g) s = g.translation_delta

unfoldable pub source_if : Bool → MouseWheelSource → Option MouseWheelSource
source_if false s = None
source_if true s = Some s

-- how long until a press turns into a context menu; egui asks too whether max_click_duration is finite, which in the domain it is
unfoldable pub until_menu : InputOptions → Float → Option Float → Option Float
until_menu o now None = None
until_menu o now (Some t) =
    let d = sub binary64 now t in cond (lt d o.max_click_duration) (Some (sub binary64 o.max_click_duration d)) None

unfoldable pub some_event : List PointerEvent → Bool
some_event [] = false
some_event (e ∷ es) = true

-- `wants_repaint_after`, in f64 seconds
unfoldable pub repaint_after : Shown → Option Float
repaint_after s =
    cond
    (some_event s.held.pointer_events || vec_ne s.place.delta vec_zero
    || lt fifth (max_elem (vec_abs s.wheel.unprocessed_wheel_delta)) || not s.keys.feed_empty)
    (Some +0)
    (cond (s.any_touches && not s.decidedly_dragging) (until_menu s.screen.options s.clock.time s.held.press_start_time) None)

-- `total_drag_delta`: latest_pos and press_origin
unfoldable pub drag_delta : Option Pos2 → Option Pos2 → Option Vec2
drag_delta None o = None
drag_delta (Some v) None = None
drag_delta (Some v) (Some o) = Some (pos_sub v o)

unfoldable pub same_button : PointerButton → PointerButton → Bool
same_button b c = eqb (button_number b) (button_number c)

unfoldable pub presses_button : PointerButton → PointerEvent → Bool
presses_button b (Moved v) = false
presses_button b (Pressed v c) = same_button b c
presses_button b (Released k c) = false

unfoldable pub releases_button : PointerButton → PointerEvent → Bool
releases_button b (Moved v) = false
releases_button b (Pressed v c) = false
releases_button b (Released k c) = same_button b c

-- a click of the button, and one that counts n
unfoldable pub clicks_button : PointerButton → PointerEvent → Bool
clicks_button b (Moved v) = false
clicks_button b (Pressed v c) = false
clicks_button b (Released None c) = false
clicks_button b (Released (Some k) c) = same_button b c

unfoldable pub clicks_button_times : ℕ → PointerButton → PointerEvent → Bool
clicks_button_times n b (Moved v) = false
clicks_button_times n b (Pressed v c) = false
clicks_button_times n b (Released None c) = false
clicks_button_times n b (Released (Some k) c) = same_button b c && eqb n k.count

unfoldable pub reply : Settled → Shown → Reply
reply time s = number s.clock.time
reply unstable_dt s = number s.clock.unstable_dt
reply predicted_dt s = number s.clock.predicted_dt
reply stable_dt s = number s.clock.stable_dt
reply focused s = bool s.screen.focused
reply modifiers s = flags s.keys.modifiers
reply viewport_rect s = rectangle s.screen.viewport_rect
reply pixels_per_point s = number s.screen.pixels_per_point
reply physical_pixel_size s = number (div binary32 one s.screen.pixels_per_point)
reply aim_radius s = number (div binary32 one s.screen.pixels_per_point)
reply smooth_scroll_delta s = vector s.sums.smooth_scroll_delta
reply zoom_delta s = zoom_reply s.multi_touch s.sums
reply zoom_delta_2d s = zoom_2d_reply s.multi_touch s.sums s.keys.modifiers s.screen.options
reply rotation_delta s = rotation (rotation_reply s.multi_touch s.sums)
reply translation_delta s = vector (translation_reply s.multi_touch s.sums)
reply is_scrolling s = bool (Scroll.is_scrolling s.wheel)
reply scroll_source s = source (source_if (Scroll.is_scrolling s.wheel) s.wheel.source)
reply time_since_last_scroll s = number (narrow binary32 (sub binary64 s.clock.time s.wheel.last_wheel_event))
reply wants_repaint_after s = maybe_seconds (repaint_after s)
reply (key_down k) s = bool (s.keys.keys_down k)
reply (key_pressed k) s = bool (ltb 0 (s.keys.presses k))
reply (num_presses k) s = count (s.keys.presses k)
reply feed_was_empty s = bool s.keys.feed_empty
reply any_touches s = bool s.any_touches
reply is_long_touch s = bool (s.any_touches && s.long_press)
reply multi_touch s = gesture s.multi_touch
reply (info_of_device d) s = gesture (s.info d)
reply (any_touches_of_device d) s = bool (s.touched d)
reply delta s = vector s.place.delta
reply motion s = maybe_vector s.place.motion
reply velocity s = vector s.place.velocity
reply direction s = vector s.place.direction
reply press_origin s = maybe_position s.held.press_origin
reply total_drag_delta s = maybe_vector (drag_delta s.place.latest_pos s.held.press_origin)
reply press_start_time s = maybe_seconds s.held.press_start_time
reply latest_pos s = maybe_position s.place.latest_pos
reply hover_pos s = maybe_position s.place.latest_pos
reply interact_pos s = maybe_position s.place.interact_pos
reply has_pointer s = bool (has_pos s.place.latest_pos)
reply is_still s = bool (not (vec_ne s.place.velocity vec_zero))
reply is_moving s = bool (vec_ne s.place.velocity vec_zero)
reply any_pressed s = bool (any is_press s.held.pointer_events)
reply any_released s = bool (any is_release s.held.pointer_events)
reply any_down s = bool (Pointer.any_down s.held.down)
reply any_click s = bool (any is_click s.held.pointer_events)
reply could_any_button_be_click s = bool s.could_be_click
reply is_decidedly_dragging s = bool s.decidedly_dragging
reply is_long_press s = bool s.long_press
reply pointer_events s = events s.held.pointer_events
reply (button_pressed b) s = bool (any (presses_button b) s.held.pointer_events)
reply (button_released b) s = bool (any (releases_button b) s.held.pointer_events)
reply (button_clicked b) s = bool (any (clicks_button b) s.held.pointer_events)
reply (button_double_clicked b) s = bool (any (clicks_button_times 2 b) s.held.pointer_events)
reply (button_triple_clicked b) s = bool (any (clicks_button_times 3 b) s.held.pointer_events)
reply (button_down b) s = bool (Pointer.button_down b s.held.down)
reply dragged s = widget s.interaction.dragged
reply potential_click_id s = widget s.interaction.potential_click_id
reply potential_drag_id s = widget s.interaction.potential_drag_id

-- `time_since_last_movement`: `(self.time - self.last_move_time) as f32`. 02 A.4: "or 'none' before any"
unfoldable pub since : Float → Option Float → Option Float
since now None = None
since now (Some t) = Some (narrow binary32 (sub binary64 now t))

-- a question asked of a panel
unfoldable pub ask : Question → Panel → Reply
ask (settled q) p = reply q (shown p)
ask time_since_last_click p = number (narrow binary32 (sub binary64 p.clock.pointer_time p.press.past.last_click_time))
ask time_since_last_movement p = maybe_number (since p.clock.pointer_time p.last_move_time)
ask has_touch_screen p = bool (Touch.has_touch_screen p.touch_states)
ask tally p = count p.tally
