-- What restoring leaves (02 A.6).
use Rattle.std.specs.Prelude.{ℕ, ◌*◌, ◌≡◌, true, false, List, eqb, length, get_or, drop, Option, None, Some, Result, Ok, Err, ⊤}
use Rattle.std.proofs.lemmas.List.Edits.{sets}
use Rattle.data.specs.Limits.{max_events}
use Rattle.data.specs.Numbers.{Row}
use Rattle.emath.specs.History.{Sample}
use Rattle.model.specs.Types.{PointerEvent}
use Rattle.pointer_events.specs.Events.{codes_of, positions_of}
use Rattle.pointer_place.specs.View.{place as view_place}
use Rattle.pointer_state.specs.View.{press as view_press}
use Rattle.key_state.specs.View.{keys as view_keys}
use Rattle.input_state.specs.declared.pointer.Pointer.{Pointer}
use Rattle.input_state.specs.declared.state.InputState.{InputState}
use Rattle.input_state.specs.View.{Lent}
use Rattle.input_state.specs.View as view
use Rattle.panel.specs.declared.state.Panel.{Panel}
use Rattle.panel.specs.View.{shown_by}
use Rattle.image.specs.Places.{value_at}
use Rattle.image_clock.specs.Clock.{clock_place, clock_code, clock_of}
use Rattle.image_screen.specs.Screen.{screen_place, screen_code, screen_of}
use Rattle.image_pointer.specs.Place.{place_place, place_code, place_of}
use Rattle.image_pointer.specs.Press.{press_place, press_code, press_of, started_of, moved_of}
use Rattle.image_wheel.specs.Wheel.{wheel_place, wheel_code, wheel_of}
use Rattle.image_keys.specs.Keys.{keys_place, keys_code, keys_of}
use Rattle.image_interaction.specs.Groups.{sums_place, sums_code, sums_of}
use Rattle.image_history.specs.History.{history_code, history_of}
use Rattle.image_events.specs.Events.{events_code, events_of_el}
use Rattle.image_form.specs.Form.{first_word, panel_code, panel_of, Answer, taken, no_image, wrong, read_image, image_row}
use Rattle.image_form.specs.Placed.{groups_place, lists_place, events_place, image_bad}
use Rattle.parking.specs.declared.check.ImageRefusal.{ImageRefusal}
use Rattle.parking.specs.declared.check.ImageRefusal.TheVariants.{FirstWord, Word}

-- the refusal of the words
abbrev pub Checked : Result ⊤ ImageRefusal → List ℕ → Type 0
Checked (Ok tt) ws = (eqb first_word (get_or ws 0 0) ≡ true) × (image_bad ws ≡ None)
Checked (Err FirstWord) ws = eqb first_word (get_or ws 0 0) ≡ false
Checked (Err (Word i)) ws = (eqb first_word (get_or ws 0 0) ≡ true) × (image_bad ws ≡ Some i)

-- what reading leaves of the history and of the events in the lent arrays: "Lent places past those written keep their contents"
pub record Written (samples : List Sample) (events : List PointerEvent) (l l' : Lent) : Type 0 where
  pub times : drop (length samples) l'.times ≡ drop (length samples) l.times
  pub positions : drop (length samples * 2) l'.positions ≡ drop (length samples * 2) l.positions
  pub codes : l'.codes ≡ sets l.codes 0 (codes_of events)
  pub places : l'.places ≡ sets l.places 0 (positions_of events)

-- ---- what sound words hold: the pointer, the input state, the panel
pub record PointerHeld (ws : List ℕ) (l : Lent) (r : Pointer) (l' : Lent) : Type 0 where
  pub place : view_place l'.times l'.positions r.place ≡ place_of (value_at place_code ws place_place) (history_of (value_at history_code ws lists_place))
  pub press : view_press l'.codes l'.places r.press ≡ press_of (value_at press_code ws press_place) (events_of_el (value_at (events_code max_events) ws (events_place ws)))
  pub started : r.started_decidedly_dragging ≡ started_of (value_at press_code ws press_place)
  pub moved : r.last_move_time ≡ moved_of (value_at press_code ws press_place)
  pub written : Written (history_of (value_at history_code ws lists_place)) (events_of_el (value_at (events_code max_events) ws (events_place ws))) l l'

pub record InputHeld (ws : List ℕ) (l : Lent) (r : InputState) (l' : Lent) : Type 0 where
  pub clock : view.clock r.clock ≡ clock_of (value_at clock_code ws clock_place)
  pub screen : view.screen r.screen ≡ screen_of (value_at screen_code ws screen_place)
  pub pointer : PointerHeld ws l r.pointer l'
  pub wheel : r.wheel ≡ wheel_of (value_at wheel_code ws wheel_place)
  pub keys : view_keys l'.presses r.keys ≡ keys_of (value_at keys_code ws keys_place)
  pub sums : view.sums r.sums ≡ sums_of (value_at sums_code ws sums_place)

pub record Held (ws : List ℕ) (l : Lent) (p : Panel) (l' : Lent) : Type 0 where
  pub state : shown_by l' p ≡ panel_of (value_at panel_code ws groups_place)
  pub written : Written (shown_by l' p).place.pos_history (shown_by l' p).press.held.pointer_events l l'

-- taken: the panel that the words hold
pub record Taken (ws : List ℕ) (l : Lent) (p : Panel) (l' : Lent) : Type 0 where
  pub answered : read_image ws ≡ taken (shown_by l' p)
  pub written : Written (shown_by l' p).place.pos_history (shown_by l' p).press.held.pointer_events l l'

-- refused: every lent place as before
pub record Kept (a : Answer) (ws : List ℕ) (l l' : Lent) : Type 0 where
  pub answered : read_image ws ≡ a
  pub lent : l' ≡ l

abbrev pub RestoredAs : List ℕ → Lent → Result Panel ImageRefusal → Lent → Type 0
RestoredAs ws l (Ok p) l' = Taken ws l p l'
RestoredAs ws l (Err FirstWord) l' = Kept no_image ws l l'
RestoredAs ws l (Err (Word i)) l' = Kept (wrong i) ws l l'

-- the row of what it answers
abbrev pub restored_row : Result Panel ImageRefusal → Option Row
restored_row (Ok p) = None
restored_row (Err FirstWord) = image_row no_image
restored_row (Err (Word i)) = image_row (wrong i)
