-- A panel's whole state, and a widget set's, as words, for what no question shows: the history, the click past, the wheel, the averages of a gesture. Definitions only.
use Rattle.std.specs.Prelude.{ℕ, ◌+◌, ◌*◌, Bool, ◌&&◌, ◌||◌, cond, List, [], ◌∷◌, ◌++◌, ltb, eqb, length, Option, None, Some}
use Rattle.std.specs.Float.{binary64}
use Rattle.emath.specs.History.{Sample}
use Rattle.data.specs.Bits.{bit_number}
use Rattle.data.specs.Modifiers.{modifiers_number}
use Rattle.data.specs.Numbers.{source_number, status_number, pinch_number}
use Rattle.feed.specs.Encode.{id_words, pos_words, vec_words, float_word}
use Rattle.model.specs.Types.{LayerId, WidgetRect, InputOptions, ButtonsDown, WheelState, ActiveTouch, DynGestureState}
use Rattle.model.specs.Types.{GestureState}
use Rattle.model.specs.Pointer.{Place, Held, ClickPast}
use Rattle.model.specs.Touch.{TouchState}
use Rattle.model.specs.Pass.{Panel, Clock, Screen, Keys, Sums, Interaction}
use Rattle.model.specs.Widgets.{Known}
use Rattle.edges.specs.Words.{float_words, present, absent, maybe_pos_words, maybe_vec_words, maybe_time_words, maybe_number_words, maybe_id_words, rect_words, pointer_events_words}
use Rattle.model_calls.specs.Ask.{packs}

unfoldable pub history_words : List Sample → List ℕ
history_words [] = []
history_words (s ∷ h) = float_words binary64 s.time ++ (pos_words s.pos ++ history_words h)

unfoldable pub place_words : Place → List ℕ
place_words p =
    maybe_pos_words p.latest_pos
    ++ (maybe_pos_words p.interact_pos ++ (vec_words p.delta ++ (maybe_vec_words p.motion ++ (vec_words p.velocity ++ (vec_words p.direction
    ++ (length p.pos_history ∷ history_words p.pos_history))))))

unfoldable pub down_bits : ButtonsDown → ℕ
down_bits d = bit_number d.primary + 2 * bit_number d.secondary + 4 * bit_number d.middle + 8 * bit_number d.extra1 + 16 * bit_number d.extra2

unfoldable pub press_words : Held → ClickPast → Bool → List ℕ
press_words h p started =
    down_bits h.down
    ∷ maybe_pos_words h.press_origin
    ++ (maybe_time_words h.press_start_time
    ++ (bit_number p.has_moved_too_much_for_a_click ∷ bit_number started
    ∷ maybe_pos_words p.last_click_pos
    ++ (float_words binary64 p.last_click_time ++ (float_words binary64 p.last_last_click_time ++ (length h.pointer_events ∷ pointer_events_words h.pointer_events)))))

unfoldable pub wheel_words : WheelState → List ℕ
wheel_words w =
    status_number w.status ∷ source_number w.source ∷ modifiers_number w.modifiers
    ∷ float_words binary64 w.last_wheel_event ++ (vec_words w.unprocessed_wheel_delta ++ vec_words w.smooth_wheel_delta)

unfoldable pub touches_words : List ActiveTouch → List ℕ
touches_words [] = []
touches_words (t ∷ ts) = id_words t.id ++ (pos_words t.pos ++ (maybe_number_words t.force ++ touches_words ts))

unfoldable pub averages_words : DynGestureState → List ℕ
averages_words a =
    float_word a.avg_distance ∷ vec_words a.avg_abs_distance2 ++ (pos_words a.avg_pos ++ (float_word a.avg_force ∷ vec_words a.heading))

unfoldable pub previous_words : Option DynGestureState → List ℕ
previous_words None = absent 8
previous_words (Some a) = present (averages_words a)

unfoldable pub gesture_words : Option GestureState → List ℕ
gesture_words None = 0 ∷ []
gesture_words (Some g) =
    1 ∷ float_words binary64 g.start_time ++ (pos_words g.start_pointer_pos ++ (pinch_number g.pinch_type ∷ averages_words g.current ++ previous_words g.previous))

unfoldable pub devices_words : List TouchState → List ℕ
devices_words [] = []
devices_words (v ∷ vs) =
    id_words v.device_id ++ (length v.active_touches ∷ touches_words v.active_touches ++ (gesture_words v.gesture_state ++ devices_words vs))

unfoldable pub keys_words : Keys → List ℕ
keys_words k =
    modifiers_number k.modifiers
    ∷ packs (λ n. bit_number (k.keys_down n)) 2 32 0 5 ++ (packs (λ n. k.presses n) 256 4 0 37 ++ (bit_number k.feed_empty ∷ []))

unfoldable pub options_words : InputOptions → List ℕ
options_words o =
    float_word o.line_scroll_speed ∷ float_word o.scroll_zoom_speed ∷ float_word o.max_click_dist
    ∷ float_words binary64 o.max_click_duration
    ++ (float_words binary64 o.max_double_click_delay
    ++ ((modifiers_number o.zoom_modifier + 32 * modifiers_number o.horizontal_scroll_modifier + 1024 * modifiers_number o.vertical_scroll_modifier) ∷ []))

unfoldable pub state_words : Clock → Screen → Keys → Sums → List ℕ
state_words c s k z =
    float_words binary64 c.time
    ++ (float_word c.unstable_dt ∷ float_word c.predicted_dt ∷ float_word c.stable_dt ∷ bit_number s.focused
    ∷ keys_words k
    ++ (rect_words s.viewport_rect
    ++ (float_word s.pixels_per_point
    ∷ vec_words z.smooth_scroll_delta ++ (float_word z.zoom_factor ∷ float_word z.rotation_radians ∷ options_words s.options))))

unfoldable pub interaction_words : Interaction → ℕ → List ℕ
interaction_words i tally = maybe_id_words i.potential_click_id ++ (maybe_id_words i.potential_drag_id ++ (maybe_id_words i.dragged ++ (tally ∷ [])))

-- ---- widgets: the layers by ascending order and id, each with its widgets in painting order; then the widgets known by ascending id

-- the widgets of a layer, as its slice holds them
pub record Slice : Type 0 where
  pub layer_id : LayerId
  pub widgets : List WidgetRect

unfoldable pub widget_words : WidgetRect → List ℕ
widget_words w =
    id_words w.id
    ++ (id_words w.parent_id
    ++ (w.layer_id.order ∷ id_words w.layer_id.id
    ++ (rect_words w.rect ++ (rect_words w.interact_rect ++ (w.sense ∷ (bit_number w.enabled + 2 * bit_number w.visible) ∷ [])))))

unfoldable pub all_widget_words : List WidgetRect → List ℕ
all_widget_words [] = []
all_widget_words (w ∷ ws) = widget_words w ++ all_widget_words ws

unfoldable pub layer_before : LayerId → LayerId → Bool
layer_before a b = ltb a.order b.order || (eqb a.order b.order && ltb a.id b.id)

unfoldable pub insert_slice : Slice → List Slice → List Slice
insert_slice s [] = s ∷ []
insert_slice s (t ∷ ts) = cond (layer_before s.layer_id t.layer_id) (s ∷ t ∷ ts) (t ∷ insert_slice s ts)

unfoldable pub sort_slices : List Slice → List Slice
sort_slices [] = []
sort_slices (s ∷ ss) = insert_slice s (sort_slices ss)

unfoldable pub slices_words : List Slice → List ℕ
slices_words [] = []
slices_words (s ∷ ss) = s.layer_id.order ∷ id_words s.layer_id.id ++ (length s.widgets ∷ all_widget_words s.widgets ++ slices_words ss)

unfoldable pub insert_known : Known → List Known → List Known
insert_known k [] = k ∷ []
insert_known k (j ∷ js) = cond (ltb k.widget.id j.widget.id) (k ∷ j ∷ js) (j ∷ insert_known k js)

unfoldable pub sort_known : List Known → List Known
sort_known [] = []
sort_known (k ∷ ks) = insert_known k (sort_known ks)

unfoldable pub known_words : List Known → List ℕ
known_words [] = []
known_words (k ∷ ks) = k.position ∷ widget_words k.widget ++ known_words ks

unfoldable pub dump_words : Panel → List Slice → List Known → List ℕ
dump_words p slices known =
    float_words binary64 p.clock.pointer_time
    ++ (place_words p.place
    ++ (press_words p.press.held p.press.past p.started_decidedly_dragging
    ++ (wheel_words p.wheel
    ++ (length p.touch_states ∷ devices_words p.touch_states
    ++ (state_words p.clock p.screen p.keys p.sums
    ++ (interaction_words p.interaction p.tally
    ++ (length slices ∷ slices_words (sort_slices slices) ++ (length known ∷ known_words (sort_known known)))))))))
