-- Written by compare/vectors/opened.py: the definitions that a theorem evaluates. One that says `unfolding opened` computes with all of them.
use Rattle.ieee_narrow.specs.Narrow as ieee_narrow_Narrow
use Rattle.ieee_sqrt.specs.Sqrt as ieee_sqrt_Sqrt
use Rattle.emath.specs.History as emath_History
use Rattle.emath.specs.Vec as emath_Vec
use Rattle.data.specs.Limits as data_Limits
use Rattle.data.specs.Modifiers as data_Modifiers
use Rattle.data.specs.Sense as data_Sense
use Rattle.feed.specs.Decode as feed_Decode
use Rattle.feed.specs.Encode as feed_Encode
use Rattle.feed.specs.Feed as feed_Feed
use Rattle.feed.specs.Laws as feed_Laws
use Rattle.feed.specs.Shape as feed_Shape
use Rattle.feed.specs.Split as feed_Split
use Rattle.model.specs.Calls as model_Calls
use Rattle.model.specs.Interact as model_Interact
use Rattle.model.specs.Numbers as model_Numbers
use Rattle.model.specs.Options as model_Options
use Rattle.model.specs.Pass as model_Pass
use Rattle.model.specs.Pointer as model_Pointer
use Rattle.model.specs.Questions as model_Questions
use Rattle.model.specs.Touch as model_Touch
use Rattle.model.specs.Wheel as model_Wheel
use Rattle.model.specs.Widgets as model_Widgets
use lib.Ieee as Ieee

unfoldable pub ieee_narrow_narrow : Type 1
unfolding ieee_narrow_Narrow.narrow
ieee_narrow_narrow = Type 0

unfoldable pub ieee_sqrt_sqrt : Type 1
unfolding ieee_sqrt_Sqrt.digit ieee_sqrt_Sqrt.root ieee_sqrt_Sqrt.isqrt ieee_sqrt_Sqrt.twice ieee_sqrt_Sqrt.rooted ieee_sqrt_Sqrt.sqrt
ieee_sqrt_sqrt = Type 0

unfoldable pub emath_history : Type 1
unfolding emath_History.max_age emath_History.drop_old emath_History.flush emath_History.add emath_History.last emath_History.duration emath_History.velocity
emath_history = Type 0

unfoldable pub emath_vec : Type 1
unfolding emath_Vec.vec_zero emath_Vec.pos_zero emath_Vec.vec_add emath_Vec.vec_scale emath_Vec.vec_div emath_Vec.pos_sub emath_Vec.vec_ne emath_Vec.length_sq emath_Vec.length_sq64 emath_Vec.length emath_Vec.distance emath_Vec.distance_sq emath_Vec.normalized emath_Vec.height emath_Vec.abs emath_Vec.vec_abs emath_Vec.larger emath_Vec.max_elem
emath_vec = Type 0

unfoldable pub data_limits : Type 1
unfolding data_Limits.zero32 data_Limits.one32 data_Limits.zero64 data_Limits.max_coordinate data_Limits.min_coordinate data_Limits.max_zoom data_Limits.max_radians data_Limits.min_radians data_Limits.max_scale data_Limits.max_time data_Limits.max_duration data_Limits.within32 data_Limits.within64 data_Limits.coordinate_ok data_Limits.pos_ok data_Limits.vec_ok data_Limits.rect_ok data_Limits.zoom_ok data_Limits.radians_ok data_Limits.unit_interval_ok data_Limits.force_ok data_Limits.maybe_force_ok data_Limits.length_ok data_Limits.scale_ok data_Limits.time_ok data_Limits.duration_ok data_Limits.options_ok data_Limits.event_ok
data_limits = Type 0

unfoldable pub data_modifiers : Type 1
unfolding data_Modifiers.no_modifiers data_Modifiers.modifiers_or data_Modifiers.matches_any data_Modifiers.modifiers_number data_Modifiers.modifiers_of
data_modifiers = Type 0

unfoldable pub data_sense : Type 1
unfolding data_Sense.sense_ok data_Sense.senses_click data_Sense.senses_drag data_Sense.is_focusable data_Sense.interactive data_Sense.sense_or
data_sense = Type 0

unfoldable pub feed_decode : Type 1
unfolding feed_Decode.check_floats feed_Decode.decode feed_Decode.item_of feed_Decode.items feed_Decode.items_after feed_Decode.piece_at feed_Decode.found_at feed_Decode.event_at feed_Decode.found_refusal
feed_decode = Type 0

unfoldable pub feed_encode : Type 1
unfolding feed_Encode.float_word feed_Encode.pos_words feed_Encode.vec_words feed_Encode.id_words feed_Encode.force_words feed_Encode.fields feed_Encode.words_after feed_Encode.encode feed_Encode.join feed_Encode.encode_all feed_Encode.fields_ok
feed_encode = Type 0

unfoldable pub feed_feed : Type 1
unfolding feed_Feed.then_events feed_Feed.events_of feed_Feed.then_refusal feed_Feed.first_refusal feed_Feed.feed_refusal
feed_feed = Type 0

unfoldable pub feed_laws : Type 1
unfolding feed_Laws.primary_press feed_Laws.primary_press_words
feed_laws = Type 0

unfoldable pub feed_shape : Type 1
unfolding feed_Shape.button_of feed_Shape.phase_of feed_Shape.unit_of feed_Shape.source_of feed_Shape.float_of feed_Shape.pos_of feed_Shape.vec_of feed_Shape.id_of feed_Shape.force_of feed_Shape.clean feed_Shape.field_below feed_Shape.key_shape feed_Shape.modifiers_shape feed_Shape.moved_shape feed_Shape.motion_shape feed_Shape.button_shape feed_Shape.zoom_shape feed_Shape.rotate_shape feed_Shape.touch_shape feed_Shape.wheel_shape feed_Shape.focus_shape feed_Shape.shape_by_kind feed_Shape.shape
feed_shape = Type 0

unfoldable pub feed_split : Type 1
unfolding feed_Split.following feed_Split.piece_length feed_Split.pieces_from feed_Split.pieces
feed_split = Type 0

unfoldable pub model_calls : Type 1
unfolding model_Calls.of_pass model_Calls.of_interact model_Calls.call model_Calls.after model_Calls.run model_Calls.outcomes
model_calls = Type 0

unfoldable pub model_interact : Type 1
unfolding model_Interact.has_pos model_Interact.long_press model_Interact.could_click model_Interact.seen model_Interact.is_some model_Interact.has_click model_Interact.get model_Interact.widget_id model_Interact.hit_id model_Interact.kept_if model_Interact.forget_gone_click model_Interact.abort_if model_Interact.long_touch_on model_Interact.long_touch_if model_Interact.pointer_event model_Interact.pointer_events model_Interact.has_hit model_Interact.is_hit model_Interact.could_still_be_clicked model_Interact.is_dragged model_Interact.new_drag model_Interact.dragged_after model_Interact.insert_id model_Interact.insert_some model_Interact.insert_hits model_Interact.order_from model_Interact.order model_Interact.order_of model_Interact.insert_on_top model_Interact.contains_pointer_of model_Interact.hovered_of model_Interact.same_id model_Interact.walked model_Interact.interaction_after model_Interact.if_changed model_Interact.snapshot model_Interact.entry_refusal model_Interact.hits_refusal model_Interact.hit_refusal model_Interact.buffers_refusal model_Interact.input_refusal model_Interact.with_interaction model_Interact.one_if model_Interact.tally_after model_Interact.tally_refusal model_Interact.tallied_by model_Interact.tallied model_Interact.interact_by model_Interact.interact_seen model_Interact.interact
model_interact = Type 0

unfoldable pub model_numbers : Type 1
unfolding model_Numbers.one model_Numbers.hundredth model_Numbers.fifth model_Numbers.three model_Numbers.eight model_Numbers.ten_thousand model_Numbers.sixtieth
model_numbers = Type 0

unfoldable pub model_options : Type 1
unfolding model_Options.default_options
model_options = Type 0

unfoldable pub model_pass : Type 1
unfolding model_Pass.no_keys model_Pass.no_presses model_Pass.no_interaction model_Pass.fresh_place model_Pass.fresh_press model_Pass.fresh model_Pass.pass_events model_Pass.set_key model_Pass.count_press model_Pass.key_event model_Pass.key_events model_Pass.is_empty model_Pass.keys_pass model_Pass.zoom_event model_Pass.zoom_of model_Pass.rotation_event model_Pass.rotation_of model_Pass.sums_of model_Pass.time_or model_Pass.time_of model_Pass.rect_or model_Pass.clock_pass model_Pass.screen_pass model_Pass.decidedly_dragging model_Pass.begin_pass model_Pass.rect_given_ok model_Pass.own_numbers_ok model_Pass.own_refusal model_Pass.crowded model_Pass.item_refusal model_Pass.item_devices model_Pass.or_else model_Pass.survey model_Pass.pass_refusal model_Pass.pass_by model_Pass.pass
model_pass = Type 0

unfoldable pub model_pointer : Type 1
unfolding model_Pointer.unwrap_or_default model_Pointer.zero_motion model_Pointer.add_motion model_Pointer.with_place model_Pointer.place_event model_Pointer.place_events model_Pointer.clear_history_after model_Pointer.start_place model_Pointer.delta_of model_Pointer.add_latest model_Pointer.velocity_of model_Pointer.finish_place model_Pointer.end_place model_Pointer.place_pass model_Pointer.no_buttons model_Pointer.recount model_Pointer.set_down model_Pointer.button_down model_Pointer.any_down model_Pointer.any_flag model_Pointer.flags_down model_Pointer.buttons model_Pointer.is_press model_Pointer.is_release model_Pointer.is_click model_Pointer.is_move model_Pointer.any model_Pointer.move_time model_Pointer.press_too_long model_Pointer.could_any_button_be_click model_Pointer.is_decidedly_dragging model_Pointer.is_long_press model_Pointer.near model_Pointer.count_of model_Pointer.click_count model_Pointer.too_far model_Pointer.add_event model_Pointer.press_button model_Pointer.release_button model_Pointer.with_moved model_Pointer.remember_click model_Pointer.click_of model_Pointer.release model_Pointer.press_event model_Pointer.press_events model_Pointer.clear_events model_Pointer.press_pass
model_pointer = Type 0

unfoldable pub model_questions : Type 1
unfolding model_Questions.shown model_Questions.zoom_reply model_Questions.zoom_by_axis model_Questions.zoom_2d_reply model_Questions.rotation_reply model_Questions.translation_reply model_Questions.source_if model_Questions.until_menu model_Questions.some_event model_Questions.repaint_after model_Questions.drag_delta model_Questions.same_button model_Questions.presses_button model_Questions.releases_button model_Questions.clicks_button model_Questions.clicks_button_times model_Questions.reply model_Questions.since model_Questions.ask
model_questions = Type 0

unfoldable pub model_touch : Type 1
unfolding model_Touch.insert_touch model_Touch.move_touch model_Touch.remove_touch model_Touch.holds model_Touch.on_touch model_Touch.new_device model_Touch.touch_device model_Touch.at_device model_Touch.find_device model_Touch.is_start model_Touch.no_place model_Touch.force_or_zero model_Touch.sum_force model_Touch.sum_pos model_Touch.sum_distance model_Touch.sum_abs_distance2 model_Touch.recip model_Touch.averages model_Touch.center model_Touch.calc_dynamic_state model_Touch.classify_by model_Touch.classify model_Touch.update_gesture model_Touch.forget_previous_if model_Touch.adds_or_removes model_Touch.added_or_removed_touches model_Touch.touch_event model_Touch.touch_events model_Touch.end_device model_Touch.end_touches model_Touch.touch_pass model_Touch.state_previous model_Touch.zoom_quotient model_Touch.zoom_delta_2d model_Touch.info_from model_Touch.info_of model_Touch.info model_Touch.info_at model_Touch.first_of model_Touch.multi_touch model_Touch.some_touch model_Touch.any_touches model_Touch.any_touches_at model_Touch.has_touch_screen
model_touch = Type 0

unfoldable pub model_wheel : Type 1
unfolding model_Wheel.scroll_action_timeout model_Wheel.resting_finger_timeout model_Wheel.wheel_default model_Wheel.is_static model_Wheel.is_in_touch model_Wheel.is_trackpad model_Wheel.is_scrolling model_Wheel.timeout model_Wheel.is_scroll_action_over model_Wheel.end_scroll_action_if model_Wheel.move_status model_Wheel.move_modifiers model_Wheel.in_points model_Wheel.swapped model_Wheel.axes model_Wheel.small model_Wheel.add_delta model_Wheel.scroll model_Wheel.on_move model_Wheel.stopped_wheel model_Wheel.on_phase model_Wheel.on_wheel_event model_Wheel.wheel_event model_Wheel.wheel_events model_Wheel.applied model_Wheel.unapplied model_Wheel.smoothed_if model_Wheel.smoothed model_Wheel.end_if_still model_Wheel.after_events model_Wheel.clear_smooth model_Wheel.wheel_pass
model_wheel = Type 0

unfoldable pub model_widgets : Type 1
unfolding model_Widgets.no_widgets model_Widgets.same_layer model_Widgets.find_known model_Widgets.widget_of model_Widgets.get model_Widgets.is_known model_Widgets.contains model_Widgets.order_of model_Widgets.order model_Widgets.find_layer model_Widgets.count_of model_Widgets.layer_count model_Widgets.layer_ids model_Widgets.well_shaped model_Widgets.some_id_zero model_Widgets.edges_ok model_Widgets.record_refusal model_Widgets.slice_refusal model_Widgets.full model_Widgets.known_refusal model_Widgets.insert_refusal model_Widgets.updated model_Widgets.count_in model_Widgets.append model_Widgets.with_known model_Widgets.replace model_Widgets.fall model_Widgets.move_to_end model_Widgets.move_to_top model_Widgets.update model_Widgets.insert_by model_Widgets.insert_unless model_Widgets.insert
model_widgets = Type 0

unfoldable pub opened : Type 1
unfolding ieee_narrow_narrow ieee_sqrt_sqrt emath_history emath_vec data_limits data_modifiers data_sense feed_decode feed_encode feed_feed feed_laws feed_shape feed_split model_calls model_interact model_numbers model_options model_pass model_pointer model_questions model_touch model_wheel model_widgets Ieee.add Ieee.sub Ieee.mul Ieee.div Ieee.lt Ieee.le Ieee.eq Ieee.ne Ieee.fits Ieee.neg Ieee.round Ieee.sum Ieee.of_int Ieee.of_bits Ieee.to_bits Ieee.size
opened = Type 0
