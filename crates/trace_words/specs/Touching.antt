-- The rows of gestures, of compare/FORMAT.md.
use Rattle.std.specs.Prelude.{ℕ, ◌%◌, List, [], ◌∷◌, ◌++◌}
use Rattle.data.specs.declared.touch.DynGestureState.{DynGestureState}
use Rattle.data.specs.declared.touch.MultiTouchInfo.{MultiTouchInfo}
use Rattle.trace_words.specs.Words.{float_words, seconds_words, pos_words, vec_words}

-- "the 8: avg_distance, avg_abs_distance2 2, avg_pos 2, avg_force, heading 2"
abbrev pub state_words : DynGestureState → List ℕ
state_words s = float_words s.avg_distance ++ vec_words s.avg_abs_distance2 ++ pos_words s.avg_pos ++ float_words s.avg_force ++ vec_words s.heading

-- "The 17 words of an info: start_time 2, start_pos 2, center_pos 2, num_touches, zoom_delta, zoom_delta_2d 2, previous heading 2, current heading 2,
-- translation_delta 2, force."
abbrev pub info_words : MultiTouchInfo → List ℕ
info_words i =
    seconds_words i.start_time
    ++ pos_words i.start_pos
    ++ pos_words i.center_pos
    ++ (i.num_touches % 0x1_0000_0000 ∷ [])
    ++ float_words i.zoom_delta
    ++ vec_words i.zoom_delta_2d
    ++ vec_words i.previous_heading
    ++ vec_words i.heading
    ++ vec_words i.translation_delta
    ++ float_words i.force
