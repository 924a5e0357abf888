-- The parts of a taken pass, and a fresh state, put together. Assumes nothing.
use Rattle.std.specs.Prelude.{Option, None}
use mathlib.Core.Path.{◌≡◌, ◌∙◌}
use mathlib.Core.Bool.{Bool, false, not, ◌&&◌}
use mathlib.Core.List.{List, [], map}
use Prim.Native.Nat.{ℕ}
use native.Mathlib.Omega.{arith}
use lib.Ieee.{Float}
use Rattle.data.specs.Limits.{key_count}
use Rattle.model.specs.Numbers.{+0, one}
use Rattle.model.specs.Types.{Rect, InputOptions, WheelState, Event}
use Rattle.model.specs.Pointer.{Place, start_place, place_events, place_pass, Press, press_pass, is_decidedly_dragging, move_time}
use Rattle.model.specs.Touch.{TouchState, end_touches}
use Rattle.model.specs.Wheel.{wheel_default, wheel_pass}
use Rattle.model.specs.Pass.{Panel, time_of, rect_or, clock_pass, screen_pass, is_empty, key_events, keys_pass, sums_of, decidedly_dragging, fresh, fresh_place, fresh_press}
use Rattle.model.specs.Pass as Pass
use Rattle.event_loop.specs.Shaped.{shaped_events}
use Rattle.event_loop.specs.declared.lists.Lists.{Lists}
use Rattle.event_loop.specs.Lists.{pointer_list, keys_list, sums_list, wheel_list, listed, listed_events, Listed}
use Rattle.pointer_place.specs.declared.Place.{Place as PlaceHeld}
use Rattle.pointer_place.specs.View.{place}
use Rattle.pointer_state.specs.declared.press.Press.{Press as PressHeld}
use Rattle.pointer_state.specs.View.{press}
use Rattle.place_loop.specs.Passed.{PlacePassed}
use Rattle.place_loop.proofs.Loops.{place_own, place_pass_own}
use Rattle.press_loop.specs.Passed.{PressPassed}
use Rattle.press_loop.proofs.Loops.{press_pass_own}
use Rattle.wheel_loop.proofs.Loops.{wheel_pass_own}
use Rattle.key_state.specs.View.{begun, numbers_of}
use Rattle.key_state.proofs.Idle.{key_own}
use Rattle.zoom_and_rotation.proofs.Idle.{zoom_own, rotation_own}
use Rattle.input_state.specs.declared.state.InputState.{InputState}
use Rattle.input_state.specs.View.{Lent, begin_by, Storage}

pub fresh_is : (c : Pass.Clock) (s : Pass.Screen) (q : Place) (r : Press) (w : WheelState) (k : Pass.Keys) (m : Pass.Sums) →
    c ≡ fresh.clock → s ≡ fresh.screen → q ≡ fresh_place → r ≡ fresh_press → w ≡ wheel_default → k ≡ fresh.keys → m ≡ fresh.sums →
    record {
      clock = c;
      screen = s;
      place = q;
      press = r;
      started_decidedly_dragging = false;
      last_move_time = None;
      touch_states = [];
      wheel = w;
      keys = k;
      sums = m;
      interaction = fresh.interaction;
      tally = fresh.tally;
    } ≡ fresh
unfolding fresh
fresh_is c s q r w k m e1 e2 e3 e4 e5 e6 e7 = rw (e1, e2, e3, e4, e5, e6, e7)

pub acted : (es : List Event) (vs : List TouchState) (p : Panel) (i : Pass.PassInput) (c : Pass.Clock) (s : Pass.Screen) (q : Place) (r : Press) (b : Bool) (l : Option Float)
    (w : WheelState) (k : Pass.Keys) (m : Pass.Sums) →
    c ≡ clock_pass i (time_of i p.clock.time) p.clock →
    s ≡ screen_pass i p.screen →
    q ≡ place_pass (time_of i p.clock.time) es p.place →
    r ≡ press_pass i.options (time_of i p.clock.time) es p.press →
    b
    ≡ (is_decidedly_dragging i.options (time_of i p.clock.time) r.held r.past.has_moved_too_much_for_a_click
    && not (decidedly_dragging p.clock p.screen p.press)) →
    l ≡ move_time (time_of i p.clock.time) r.held.pointer_events q.velocity p.last_move_time →
    w ≡ wheel_pass (rect_or i.screen_rect p.screen.viewport_rect) i.options (time_of i p.clock.time) i.smoothing_factor es p.wheel →
    k ≡ keys_pass es p.keys →
    m ≡ sums_of i.options es w →
    record {
      clock = c;
      screen = s;
      place = q;
      press = r;
      started_decidedly_dragging = b;
      last_move_time = l;
      touch_states = map (end_touches (time_of i p.clock.time) p.place.interact_pos es) vs;
      wheel = w;
      keys = k;
      sums = m;
      interaction = p.interaction;
      tally = p.tally;
    } ≡ begin_by es vs p i
unfolding begin_by
acted es vs p i c s q r b l w k m e1 e2 e3 e4 e5 e6 e7 e8 e9 = rw (e9, e8, e7, e6, e5, e4, e3, e2, e1)

-- the lent arrays, of the parts that write them
pub stored : (es : List Event) (vs : List TouchState) (p : Panel) (i : Pass.PassInput) (l l' : Lent) (s : InputState) (q : PlaceHeld) (r : PressHeld) →
    p.place ≡ place l.times l.positions s.pointer.place →
    p.press ≡ press l.codes l.places s.pointer.press →
    PlacePassed (time_of i p.clock.time) es l.times l.positions s.pointer.place l'.times l'.positions q →
    PressPassed i.options (time_of i p.clock.time) es l.codes l.places s.pointer.press l'.codes l'.places r →
    l'.presses ≡ numbers_of (keys_pass es p.keys).presses key_count →
    Storage es (begin_by es vs p i) l s l'
unfolding begin_by clock_pass
stored es vs p i l l' s q r place_is press_is placed pressed presses =
    record {
      times = placed.times_after ∙ rw place_is;
      positions = placed.positions_after ∙ rw place_is;
      codes = pressed.codes_after ∙ rw press_is;
      places = pressed.positions_after ∙ rw press_is;
      presses = presses;
    }

-- ---- the lists hold all that each part reads
module _ (ws : List ℕ) (s : Lists) (ls : Listed ws s) where
  abbrev es : List Event
  es = shaped_events ws

  abbrev events : ℕ → List Event
  events l = listed_events ws (listed s l)

  pub place_all : {time : Float} {ts qs ts' qs' : List Float} {p r : PlaceHeld} →
      PlacePassed time (events pointer_list) ts qs p ts' qs' r → PlacePassed time es ts qs p ts' qs' r
  place_all {time} {ts} {qs} {ts'} {qs'} {p} {r} h =
      let old = place ts qs p in
      let pass : place_pass time (events pointer_list) old ≡ place_pass time es old = rw (ls pointer_list (omega arith)) (place_pass_own time es old) in
      let walk : place_events (events pointer_list) (start_place old) ≡ place_events es (start_place old) = rw (ls pointer_list (omega arith)) (place_own es (start_place old)) in
      record { result = h.result ∙ pass; times_after = h.times_after ∙ rw (pass, walk); positions_after = h.positions_after ∙ rw (pass, walk) }

  pub press_all : {o : InputOptions} {time : Float} {cs cs' : List ℕ} {qs qs' : List Float} {p r : PressHeld} →
      PressPassed o time (events pointer_list) cs qs p cs' qs' r → PressPassed o time es cs qs p cs' qs' r
  press_all {o} {time} {cs} {cs'} {qs} {qs'} {p} {r} h =
      let old = press cs qs p in
      let pass : press_pass o time (events pointer_list) old ≡ press_pass o time es old = rw (ls pointer_list (omega arith)) (press_pass_own o time es old) in
      record { result = h.result ∙ pass; codes_after = h.codes_after ∙ rw pass; positions_after = h.positions_after ∙ rw pass }

  pub wheel_all : (r : Rect) (o : InputOptions) (time factor : Float) (w : WheelState) → wheel_pass r o time factor (events wheel_list) w ≡ wheel_pass r o time factor es w
  wheel_all r o time factor w = rw (ls wheel_list (omega arith)) (wheel_pass_own r o time factor es w)

  pub keys_all : (k : Pass.Keys) → key_events (events keys_list) (begun (is_empty es) k) ≡ keys_pass es k
  unfolding keys_pass
  keys_all k = rw (ls keys_list (omega arith)) (key_own es (begun (is_empty es) k))

  pub sums_all : (o : InputOptions) (w : WheelState) → sums_of o (events sums_list) w ≡ sums_of o es w
  unfolding sums_of
  sums_all o w = rw (ls sums_list (omega arith), zoom_own es one, rotation_own es +0)
