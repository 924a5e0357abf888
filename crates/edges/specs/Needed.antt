-- The clearing pass (01): two pasts that it clears, and for each of its parts, and for the wait before the first press, two pasts that are not alike later
-- without it. Definitions only; all of it is evaluated.
use Rattle.std.specs.Prelude.{◌≡◌, Bool, true, false, not, ◌&&◌, List, [], ◌∷◌, ◌++◌, Float, None}
use Rattle.std.specs.Float.{binary64}
use Rattle.data.specs.Modifiers.{no_modifiers}
use Rattle.model.specs.Types.{Primary, Secondary, Middle, Extra1, Extra2, Point, Unknown, Trackpad, Start, End}
use Rattle.model.specs.Types.{Event, Key, PointerMoved, MouseMoved, Button, PointerGone, Touch, MouseWheel, WindowFocused}
use Rattle.model.specs.Pass.{Panel, fresh}
use Rattle.model.specs.Interact.{InteractInput}
use Rattle.model.specs.Calls.{Call, passes, interacts, Outcome, refused_pass, refused_interact, passed, answered, call, after, run}
use Rattle.model.specs.Questions.{Settled, settled, ask}
use Rattle.model.specs.Questions as Q
use Rattle.edges.specs.Words.{same, reply_words, snapshot_words}
use Rattle.edges.specs.Cases.{dec, pos, vec, delay, pass_at, press, release, on_it}

-- ---- the clearing pass's parts, and the passes of this file

-- double-click delay 0.25
unfoldable pub at : Float → List Event → Call
at t es = passes (pass_at t (delay (dec 0 2500)) es)

unfoldable pub ends : List Event
ends = Touch 1 1 End (pos 0 0) None ∷ []

unfoldable pub releases : List Event
releases =
    Button (pos 5 5) Primary false no_modifiers ∷ Button (pos 5 5) Secondary false no_modifiers ∷ Button (pos 5 5) Middle false no_modifiers
    ∷ Button (pos 5 5) Extra1 false no_modifiers ∷ Button (pos 5 5) Extra2 false no_modifiers ∷ []

unfoldable pub relative_motion : List Event
relative_motion = MouseMoved (vec 1 1) ∷ []

unfoldable pub wheel_end : List Event
wheel_end = MouseWheel Point (vec 0 0) End Unknown no_modifiers ∷ []

unfoldable pub focus_lost : List Event
focus_lost = WindowFocused false ∷ []

unfoldable pub pointer_gone : List Event
pointer_gone = PointerGone ∷ []

-- with the pointer on no widget
unfoldable pub on_nothing : InteractInput
on_nothing = record { widgets = λ d. None; close = []; contains_pointer = []; click = None; drag = None; hovered_places = 66; contains_places = 66 }

-- a clearing pass at 2.0 with some feed, and its interact
unfoldable pub clearing : List Event → List Call
clearing es = at (dec 2 0) es ∷ interacts on_nothing ∷ []

-- ---- alike or not

unfoldable pub taken : Outcome → Bool
taken (refused_pass r) = false
taken (refused_interact r) = false
taken (passed p) = true
taken (answered a p) = true

unfoldable pub all_taken : Panel → List Call → Bool
all_taken p [] = true
all_taken p (c ∷ cs) = taken (call p c) && all_taken (after p (call p c)) cs

unfoldable pub answers_alike : Settled → Panel → Panel → Bool
answers_alike q l r = same (reply_words binary64 (ask (settled q) l)) (reply_words binary64 (ask (settled q) r))

-- ---- a part of the clearing pass

pub record Part : Type 0 where
  -- two pasts
  pub left : List Call
  pub right : List Call
  -- the clearing pass's feed without the part
  pub feed : List Event
  -- later calls, and what is asked after them
  pub later : List Call
  pub question : Settled

-- all calls are taken, and the answers differ
unfoldable pub differ : List Event → Part → Bool
differ es x =
    let calls = clearing es ++ x.later in
    all_taken fresh (x.left ++ calls) && all_taken fresh (x.right ++ calls)
    && not (answers_alike x.question (run fresh (x.left ++ calls)) (run fresh (x.right ++ calls)))

unfoldable pub agree : List Event → Part → Bool
agree es x =
    let calls = clearing es ++ x.later in
    all_taken fresh (x.left ++ calls) && all_taken fresh (x.right ++ calls)
    && answers_alike x.question (run fresh (x.left ++ calls)) (run fresh (x.right ++ calls))

unfoldable pub whole : List Event
whole = ends ++ releases ++ relative_motion ++ wheel_end ++ focus_lost ++ pointer_gone

-- a finger is held
unfoldable pub part_ends : Part
part_ends =
    record {
      left = at (dec 1 0) (Touch 1 1 Start (pos 0 0) None ∷ []) ∷ [];
      right = [];
      feed = releases ++ relative_motion ++ wheel_end ++ focus_lost ++ pointer_gone;
      later = at (dec 3 0) [] ∷ [];
      question = Q.any_touches;
    }

-- a button is held
unfoldable pub part_releases : Part
part_releases =
    record {
      left = at (dec 1 0) (press (pos 0 0) ∷ []) ∷ [];
      right = [];
      feed = ends ++ relative_motion ++ wheel_end ++ focus_lost ++ pointer_gone;
      later = at (dec 3 0) [] ∷ [];
      question = Q.any_down;
    }

-- there was a relative motion once: later it is zero, and not none
unfoldable pub part_relative_motion : Part
part_relative_motion =
    record {
      left = at (dec 1 0) (MouseMoved (vec 3 3) ∷ []) ∷ [];
      right = [];
      feed = ends ++ releases ++ wheel_end ++ focus_lost ++ pointer_gone;
      later = at (dec 3 0) [] ∷ [];
      question = Q.motion;
    }

-- a finger rests on the trackpad
unfoldable pub part_wheel_end : Part
part_wheel_end =
    record {
      left = at (dec 1 5000) (MouseWheel Point (vec 0 0) Start Trackpad no_modifiers ∷ []) ∷ [];
      right = [];
      feed = ends ++ releases ++ relative_motion ++ focus_lost ++ pointer_gone;
      later = at (dec 2 2500) [] ∷ [];
      question = Q.is_scrolling;
    }

-- a key is held
unfoldable pub part_focus_lost : Part
part_focus_lost =
    record {
      left = at (dec 1 0) (Key 5 true ∷ []) ∷ [];
      right = [];
      feed = ends ++ releases ++ relative_motion ++ wheel_end ++ pointer_gone;
      later = at (dec 3 0) [] ∷ [];
      question = Q.key_down 5;
    }

-- the pointer moved just before
unfoldable pub part_pointer_gone : Part
part_pointer_gone =
    record {
      left = at (dec 1 9375) (PointerMoved (pos 50 0) ∷ []) ∷ at (dec 1 9688) (PointerMoved (pos 60 0) ∷ []) ∷ [];
      right = [];
      feed = ends ++ releases ++ relative_motion ++ wheel_end ++ focus_lost;
      later = at (dec 2 156) [] ∷ [];
      question = Q.velocity;
    }

unfoldable pub parts : List Part
parts = part_ends ∷ part_releases ∷ part_relative_motion ∷ part_wheel_end ∷ part_focus_lost ∷ part_pointer_gone ∷ []

-- each part is needed: with the whole feed the answers agree, without the part they differ
unfoldable pub all_needed : List Part → Bool
all_needed [] = true
all_needed (x ∷ xs) = agree whole x && differ x.feed x && all_needed xs

-- ---- the wait before the first press: the right panel's releases in the clearing pass are clicks, the left one's, moved too far, are none

unfoldable pub first_click_at : Float → Part
first_click_at t =
    record {
      left = at (dec 1 0) (press (pos 0 0) ∷ PointerMoved (pos 100 0) ∷ []) ∷ [];
      right = [];
      feed = whole;
      later = at t (press (pos 5 5) ∷ release (pos 5 5) ∷ []) ∷ [];
      question = Q.pointer_events;
    }

-- 0.2 s after the clearing pass, and twice the delay after it
unfoldable pub wait_needed : Bool
wait_needed = differ whole (first_click_at (dec 2 2000)) && agree whole (first_click_at (dec 2 5000))

-- ---- two pasts that meet everything: the left panel lost a release and drags widget 7, the right one holds a finger on a device that the left one does not know

unfoldable pub lost_release : List Call
lost_release = at (dec 1 0) (press (pos 0 0) ∷ PointerMoved (pos 100 0) ∷ Key 5 true ∷ []) ∷ interacts on_it ∷ []

unfoldable pub held_finger : List Call
held_finger = at (dec 1 0) (PointerMoved (pos 3 3) ∷ Touch 1 1 Start (pos 3 3) None ∷ []) ∷ []

-- presses, clicks, a drag, fingers: from twice the delay on
unfoldable pub later_calls : List Call
later_calls =
    at (dec 2 1000) [] ∷ interacts on_it ∷ at (dec 2 5000) (press (pos 5 5) ∷ []) ∷ interacts on_it ∷ at (dec 2 6000) (release (pos 5 5) ∷ []) ∷ interacts on_it
    ∷ at (dec 2 7000) (press (pos 5 5) ∷ release (pos 5 5) ∷ Touch 1 1 Start (pos 0 0) None ∷ Touch 1 2 Start (pos 4 0) None ∷ []) ∷ interacts on_nothing
    ∷ at (dec 2 8000) (MouseWheel Point (vec 0 9) Start Trackpad no_modifiers ∷ Key 5 true ∷ []) ∷ []

-- of every settled question one
unfoldable pub every : List Settled
every =
    Q.time ∷ Q.unstable_dt ∷ Q.predicted_dt ∷ Q.stable_dt ∷ Q.focused ∷ Q.modifiers ∷ Q.viewport_rect ∷ Q.pixels_per_point ∷ Q.physical_pixel_size ∷ Q.aim_radius
    ∷ Q.smooth_scroll_delta ∷ Q.zoom_delta ∷ Q.zoom_delta_2d ∷ Q.rotation_delta ∷ Q.translation_delta ∷ Q.is_scrolling ∷ Q.scroll_source ∷ Q.time_since_last_scroll ∷ Q.wants_repaint_after
    ∷ Q.key_down 5 ∷ Q.key_pressed 5 ∷ Q.num_presses 5 ∷ Q.feed_was_empty ∷ Q.any_touches ∷ Q.is_long_touch ∷ Q.multi_touch ∷ Q.info_of_device 1 ∷ Q.any_touches_of_device 1
    ∷ Q.delta ∷ Q.motion ∷ Q.velocity ∷ Q.direction ∷ Q.press_origin ∷ Q.total_drag_delta ∷ Q.press_start_time ∷ Q.latest_pos ∷ Q.hover_pos ∷ Q.interact_pos ∷ Q.has_pointer ∷ Q.is_still ∷ Q.is_moving
    ∷ Q.any_pressed ∷ Q.any_released ∷ Q.any_down ∷ Q.any_click ∷ Q.could_any_button_be_click ∷ Q.is_decidedly_dragging ∷ Q.is_long_press ∷ Q.pointer_events
    ∷ Q.button_pressed Primary ∷ Q.button_released Primary ∷ Q.button_clicked Primary ∷ Q.button_double_clicked Primary ∷ Q.button_triple_clicked Primary ∷ Q.button_down Primary
    ∷ Q.dragged ∷ Q.potential_click_id ∷ Q.potential_drag_id ∷ []

unfoldable pub all_alike : List Settled → Panel → Panel → Bool
all_alike [] l r = true
all_alike (q ∷ qs) l r = answers_alike q l r && all_alike qs l r

-- both taken, and an interact with one answer
unfoldable pub same_outcome : Outcome → Outcome → Bool
same_outcome (refused_pass r) b = false
same_outcome (refused_interact r) b = false
same_outcome (passed p) (refused_pass r) = false
same_outcome (passed p) (refused_interact r) = false
same_outcome (passed p) (passed q) = all_alike every p q
same_outcome (passed p) (answered b q) = false
same_outcome (answered a p) (refused_pass r) = false
same_outcome (answered a p) (refused_interact r) = false
same_outcome (answered a p) (passed q) = false
same_outcome (answered a p) (answered b q) = same (snapshot_words a) (snapshot_words b) && all_alike every p q

unfoldable pub alike_from_here : Panel → Panel → List Call → Bool
alike_from_here l r [] = true
alike_from_here l r (c ∷ cs) = same_outcome (call l c) (call r c) && alike_from_here (after l (call l c)) (after r (call r c)) cs

-- the pasts are taken and differ; so does the tally for good; the clearing pass and its interact are taken; the later calls answer alike
unfoldable pub pasts_cleared : Bool
pasts_cleared =
    let l = run fresh lost_release in
    let r = run fresh held_finger in
    all_taken fresh (lost_release ++ clearing whole) && all_taken fresh (held_finger ++ clearing whole)
    && not (answers_alike Q.any_down l r) && not (answers_alike Q.dragged l r) && not (answers_alike Q.any_touches l r)
    && alike_from_here (run l (clearing whole)) (run r (clearing whole)) later_calls
    && not (same (reply_words binary64 (ask Q.tally (run l (clearing whole ++ later_calls)))) (reply_words binary64 (ask Q.tally (run r (clearing whole ++ later_calls)))))

-- proofs/Needed.antt: by evaluation
pub record Needed : Type 0 where
  pub each_part : all_needed parts ≡ true
  pub wait : wait_needed ≡ true
  pub cleared : pasts_cleared ≡ true
