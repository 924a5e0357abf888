-- What the structs of src/ and the lent arrays mean: the model's records.
use Rattle.std.specs.Prelude.{ℕ, ◌≤◌, ◌≡◌, not, ◌&&◌, List, [], map, length, Float}
use Rattle.std.proofs.lemmas.List.Edits.{sets}
use Rattle.data.specs.Limits.{max_events, key_count}
use Rattle.model.specs.Types.{InputOptions, Event}
use Rattle.model.specs.Pointer.{place_pass, press_pass, is_decidedly_dragging, move_time}
use Rattle.model.specs.Touch.{TouchState, end_touches}
use Rattle.model.specs.Wheel.{wheel_pass}
use Rattle.model.specs.Pass.{Panel, Interaction, time_of, rect_or, clock_pass, screen_pass, keys_pass, sums_of, decidedly_dragging, fresh, pass}
use Rattle.model.specs.Pass as Pass
use Rattle.event_loop.specs.Shaped.{shaped_events}
use Rattle.event_loop.specs.declared.lists.Lists.{Lists}
use Rattle.event_loop.specs.Lists.{Listed}
use Rattle.pointer_place.specs.View.{place, times_after, positions_after}
use Rattle.pointer_events.specs.Events.{codes_of, positions_of}
use Rattle.pointer_state.specs.View.{press}
use Rattle.place_loop.specs.Passed.{sample_place, PlacePassed}
use Rattle.press_loop.specs.Passed.{PressPassed}
use Rattle.key_state.specs.View.{presses_of, keys, numbers_of}
use Rattle.input_state.specs.declared.input.PassInput.{PassInput}
use Rattle.input_state.specs.declared.clock.Clock.{Clock}
use Rattle.input_state.specs.declared.screen.Screen.{Screen}
use Rattle.input_state.specs.declared.sums.Sums.{Sums}
use Rattle.input_state.specs.declared.pointer.Pointer.{Pointer}
use Rattle.input_state.specs.declared.state.InputState.{InputState}

abbrev pub input : List ℕ → PassInput → Pass.PassInput
input ws i =
    record {
      time = i.time;
      screen_rect = i.screen_rect;
      predicted_dt = i.predicted_dt;
      smoothing_factor = i.smoothing_factor;
      pixels_per_point = i.pixels_per_point;
      focused = i.focused;
      requested_repaint = i.requested_repaint;
      options = i.options;
      feed = ws;
    }

-- ---- the state
abbrev pub clock : Clock → Pass.Clock
clock c = record { time = c.time; pointer_time = c.pointer_time; unstable_dt = c.unstable_dt; stable_dt = c.stable_dt; predicted_dt = c.predicted_dt }

abbrev pub screen : Screen → Pass.Screen
screen s = record { viewport_rect = s.viewport_rect; pixels_per_point = s.pixels_per_point; focused = s.focused; options = s.options }

abbrev pub sums : Sums → Pass.Sums
sums s = record { zoom_factor = s.zoom_factor; zoom_exponent = s.zoom_exponent; rotation_radians = s.rotation_radians; smooth_scroll_delta = s.smooth_scroll_delta }

-- what the lent arrays hold: the history's times and positions, the pass's pointer events and their positions, the presses
pub record Lent : Type 0 where
  pub times : List Float
  pub positions : List Float
  pub codes : List ℕ
  pub places : List Float
  pub presses : List ℕ

abbrev pub lent : List Float → List Float → List ℕ → List Float → List ℕ → Lent
lent ts ps cs qs ks = record { times = ts; positions = ps; codes = cs; places = qs; presses = ks }

-- the panel; interaction and tally stand beside the state
abbrev pub panel : Lent → InputState → List TouchState → Interaction → ℕ → Panel
panel l s vs n t =
    record {
      clock = clock s.clock;
      screen = screen s.screen;
      place = place l.times l.positions s.pointer.place;
      press = press l.codes l.places s.pointer.press;
      started_decidedly_dragging = s.pointer.started_decidedly_dragging;
      last_move_time = s.pointer.last_move_time;
      touch_states = vs;
      wheel = s.wheel;
      keys = keys l.presses s.keys;
      sums = sums s.sums;
      interaction = n;
      tally = t;
    }

-- ---- the model's `begin_pass` of a list of events, and of the devices after them
unfoldable pub begin_by : List Event → List TouchState → Panel → Pass.PassInput → Panel
begin_by es vs p i =
    let time = time_of i p.clock.time in
    let o = i.options in
    let s = press_pass o time es p.press in
    let w = wheel_pass (rect_or i.screen_rect p.screen.viewport_rect) o time i.smoothing_factor es p.wheel in
    record {
      clock = clock_pass i time p.clock;
      screen = screen_pass i p.screen;
      place = place_pass time es p.place;
      press = s;
      started_decidedly_dragging =
          is_decidedly_dragging o time s.held s.past.has_moved_too_much_for_a_click && not (decidedly_dragging p.clock p.screen p.press);
      last_move_time = move_time time s.held.pointer_events (place_pass time es p.place).velocity p.last_move_time;
      touch_states = map (end_touches time p.place.interact_pos es) vs;
      wheel = w;
      keys = keys_pass es p.keys;
      sums = sums_of o es w;
      interaction = p.interaction;
      tally = p.tally;
    }

-- ---- contracts

-- a fresh state: whatever the lent arrays hold, but for the presses, which are 0
abbrev pub Fresh : InputState → Type 0
Fresh s = (l : Lent) → ((j : ℕ) → presses_of l.presses j ≡ 0) → panel l s [] fresh.interaction fresh.tally ≡ fresh

-- The pointer's part of a pass, of the events in its list.
pub record PointerPassed (old : InputOptions) (before : Float) (o : InputOptions) (time : Float) (es : List Event)
    (times positions : List Float) (codes : List ℕ) (places : List Float) (p : Pointer)
    (times' positions' : List Float) (codes' : List ℕ) (places' : List Float) (r : Pointer) : Type 0 where
  -- where the pointer is, and the places of its history
  pub place_is : PlacePassed time es times positions p.place times' positions' r.place
  -- the presses, and the places of the pass's pointer events
  pub press_is : PressPassed o time es codes places p.press codes' places' r.press
  -- a drag that was not decided before is decided now
  pub started_is : r.started_decidedly_dragging
      ≡ (is_decidedly_dragging o time (press codes' places' r.press).held (press codes' places' r.press).past.has_moved_too_much_for_a_click
      && not (is_decidedly_dragging old before (press codes places p.press).held (press codes places p.press).past.has_moved_too_much_for_a_click))
  -- the last movement's time, by the pass's pointer events and its velocity
  pub moved_is : r.last_move_time ≡ move_time time (press codes' places' r.press).held.pointer_events r.place.velocity p.last_move_time

-- ---- a pass that is taken

-- Every place of the lent arrays after a taken pass of the events `es` that leaves the model's panel `p`.
pub record Storage (es : List Event) (p : Panel) (l : Lent) (s : InputState) (l' : Lent) : Type 0 where
  -- where the pointer has a position, the pass's time stands at the sample's place; every other place keeps its contents
  pub times : l'.times ≡ times_after p.place.latest_pos (sample_place es l.times l.positions s.pointer.place) p.clock.time l.times
  -- and so the position
  pub positions : l'.positions ≡ positions_after p.place.latest_pos (sample_place es l.times l.positions s.pointer.place) l.positions
  -- the numbers of the pass's pointer events stand from the first place on; every other place keeps its contents
  pub codes : l'.codes ≡ sets l.codes 0 (codes_of p.press.held.pointer_events)
  -- and so their positions
  pub places : l'.places ≡ sets l.places 0 (positions_of p.press.held.pointer_events)
  -- every place is written: it holds how often its key was pressed in the pass
  pub presses : l'.presses ≡ numbers_of p.keys.presses key_count

-- What `act` asks, and reading the feed tells.
pub record Ready (ws : List ℕ) (ls : Lists) : Type 0 where
  -- the lists hold the places of the feed's events
  pub lists : Listed ws ls
  -- "At most 64 events"
  pub few : length (shaped_events ws) ≤ max_events

-- Its outcome, for any devices: `vs` before the pass, `us` after the touch events.
pub record Acted (i : PassInput) (ws : List ℕ) (l : Lent) (s : InputState) (l' : Lent) (r : InputState) : Type 0 where
  -- the model's `begin_pass`
  pub result : (vs us : List TouchState) (n : Interaction) (t : ℕ) →
      panel l' r (map (end_touches (time_of (input ws i) s.clock.time) s.pointer.place.interact_pos (shaped_events ws)) us) n t
      ≡ begin_by (shaped_events ws) us (panel l s vs n t) (input ws i)
  -- and every place of the lent arrays
  pub storage : (vs us : List TouchState) (n : Interaction) (t : ℕ) →
      Storage (shaped_events ws) (begin_by (shaped_events ws) us (panel l s vs n t) (input ws i)) l s l'
