-- Form 1 of an image (02 A.6): its description, a panel as its value and back, the words of a panel, and what reading words answers. Definitions only.
use Rattle.std.specs.Prelude.{ℕ, ◌≡◌, cond, List, [], ◌∷◌, eqb, Option, None, Some}
use Rattle.data.specs.Limits.{max_events, max_devices, max_touches}
use Rattle.data.specs.Numbers.{Row}
use Rattle.model.specs.Pass.{Panel}
use Rattle.model.specs.Pointer.{CountTrue}
use Rattle.model.specs.Touch.{InOrder}
use Rattle.image.specs.Codes.{Code, both, El, header, write, Read, bad, good, read, In, Words}
use Rattle.image_clock.specs.Clock.{clock_el, clock_of}
use Rattle.image_screen.specs.Screen.{screen_el, screen_of}
use Rattle.image_pointer.specs.Place.{place_el, place_of}
use Rattle.image_pointer.specs.Press.{press_el, press_of, started_of, moved_of}
use Rattle.image_wheel.specs.Wheel.{wheel_el, wheel_of}
use Rattle.image_keys.specs.Keys.{keys_el, keys_of, NoKeyBeyond}
use Rattle.image_ranges.specs.Ranges.{Ranged}
use Rattle.image_interaction.specs.Groups.{sums_el, sums_of, interaction_el, interaction_of}
use Rattle.image_fixed.specs.Fixed.{fixed_code}
use Rattle.image_history.specs.History.{history_code, history_el, history_of}
use Rattle.image_events.specs.Events.{events_code, events_el, events_of_el}
use Rattle.image_devices.specs.Devices.{devices_code, devices_el, devices_of}

-- "a first word with 13 in its top bits and form number 1 below"
abbrev pub first_word : ℕ
first_word = header 13 1

-- "then groups": 1 to 9 of one length, then history, events and devices
abbrev pub panel_code : Code
panel_code = both fixed_code (both history_code (both (events_code max_events) (devices_code max_devices max_touches)))

-- "the whole state, with tally, history, dragged and potential ids": groups 1 to 9 as their value
abbrev pub fixed_el : Panel → El fixed_code
fixed_el p = (
  clock_el p.clock,
  (
    screen_el p.screen,
    (
      place_el p.place,
      (
        press_el p.press p.started_decidedly_dragging p.last_move_time,
        (wheel_el p.wheel, (keys_el p.keys, (sums_el p.sums, (interaction_el p.interaction, p.tally)))),
      ),
    ),
  ),
)

-- and all twelve
abbrev pub el : Panel → El panel_code
el p = (fixed_el p, (history_el p.place.pos_history, (events_el p.press.held.pointer_events, devices_el p.touch_states)))

-- the panel that a value stands for
abbrev pub panel_of : El panel_code → Panel
panel_of v =
    record {
      clock = clock_of v.0.0;
      screen = screen_of v.0.1.0;
      place = place_of v.0.1.1.0 (history_of v.1.0);
      press = press_of v.0.1.1.1.0 (events_of_el v.1.1.0);
      started_decidedly_dragging = started_of v.0.1.1.1.0;
      last_move_time = moved_of v.0.1.1.1.0;
      touch_states = devices_of v.1.1.1;
      wheel = wheel_of v.0.1.1.1.1.0;
      keys = keys_of v.0.1.1.1.1.1.0;
      sums = sums_of v.0.1.1.1.1.1.1.0;
      interaction = interaction_of v.0.1.1.1.1.1.1.1.0;
      tally = v.0.1.1.1.1.1.1.1.1;
    }

-- "Write the whole state .. as 32-bit words"
unfoldable pub image : Panel → List ℕ
image p = first_word ∷ write panel_code (el p)

-- what reading words answers: a panel; 14; 15 at a word
pub data Answer : Type 0 where
  taken : Panel → Answer
  no_image : Answer
  wrong : ℕ → Answer

-- "or left over": a word after the last group is told by its place
unfoldable pub ended : Read (El panel_code) → Answer
ended (bad i) = wrong i
ended (good v i []) = taken (panel_of v)
ended (good v i (w ∷ ws)) = wrong i

-- "14 for a wrong or missing first word, then 15 at the first word outside its field's range or group .."
unfoldable pub read_image : List ℕ → Answer
read_image [] = no_image
read_image (w ∷ ws) = cond (eqb first_word w) (ended (read panel_code 1 ws)) no_image

-- the rows of these refusals
abbrev pub image_row : Answer → Option Row
image_row (taken p) = None
image_row no_image = Some (record { number = 14; index = None })
image_row (wrong i) = Some (record { number = 15; index = Some i })

-- "writing gives only 8, for a buffer too short"
abbrev pub short_row : Row
short_row = record { number = 8; index = None }

-- what is known of every panel that the operations gave: its numbers are in the fields' ranges, its devices and their touches go by ascending id,
-- and the number of buttons down is that of the flags
pub record Parkable (p : Panel) : Type 0 where
  pub in_range : Ranged p
  pub in_order : InOrder p.touch_states
  -- 02 A.7: the number of buttons down, which the image doesn't hold
  pub count_true : CountTrue p.press.held.down

-- "Reading back what was written of a panel that the operations gave yields that state": of a panel whose values are in the fields' ranges
abbrev pub ImageReadsBack : Type 0
ImageReadsBack = (p : Panel) → In panel_code (el p) → NoKeyBeyond p.keys → CountTrue p.press.held.down → read_image (image p) ≡ taken p

-- "and every accepted image is the one that writing its state would produce"
abbrev pub ImageIsWritten : Type 0
ImageIsWritten = (ws : List ℕ) → Words ws → (p : Panel) → read_image ws ≡ taken p → ws ≡ image p

-- so what is read can be parked in turn
abbrev pub TakenIsParkable : Type 0
TakenIsParkable = (ws : List ℕ) (p : Panel) → read_image ws ≡ taken p → Parkable p
