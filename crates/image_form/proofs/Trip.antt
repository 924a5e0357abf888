-- A panel from the value that stands for it, and every value in range stands for a panel. Assumes nothing.
use mathlib.Core.Path.{◌≡◌, ap, ◌∙◌}
use Rattle.model.specs.Pointer.{CountTrue}
use Rattle.model.specs.Pass.{Panel}
use Rattle.image.specs.Codes.{El, In}
use Rattle.image_clock.proofs.Trip.{clock_back, clock_forth}
use Rattle.image_screen.proofs.Trip.{screen_back, screen_forth}
use Rattle.image_pointer.specs.Place.{place_el, place_of}
use Rattle.image_pointer.specs.Press.{press_el, press_of}
use Rattle.image_pointer.proofs.Trip.{place_back, place_forth, press_back, press_forth, started_back, moved_back}
use Rattle.image_wheel.proofs.Trip.{wheel_back, wheel_forth}
use Rattle.image_keys.specs.Keys.{NoKeyBeyond}
use Rattle.image_keys.proofs.Trip.{keys_back, keys_forth}
use Rattle.image_interaction.proofs.Trip.{sums_back, sums_forth, interaction_back, interaction_forth}
use Rattle.image_history.specs.History.{history_of}
use Rattle.image_history.proofs.Fill.{history_back, history_of_el}
use Rattle.image_events.specs.Events.{events_of_el}
use Rattle.image_events.proofs.Back.{events_back, events_forth}
use Rattle.image_devices.proofs.Back.{devices_back, devices_forth}
use Rattle.image_form.specs.Form.{panel_code, fixed_el, el, panel_of}

pub panel_back : (p : Panel) → NoKeyBeyond p.keys → CountTrue p.press.held.down → panel_of (el p) ≡ p
panel_back p h n i =
    let started = p.started_decidedly_dragging in
    let moved = p.last_move_time in
    record {
      clock = clock_back p.clock i;
      screen = screen_back p.screen i;
      place = (ap (place_of (place_el p.place)) (history_back p.place.pos_history) ∙ place_back p.place) i;
      press = (ap (press_of (press_el p.press started moved)) (events_back p.press.held.pointer_events) ∙ press_back p.press started moved n) i;
      started_decidedly_dragging = started_back p.press started moved i;
      last_move_time = moved_back p.press started moved i;
      touch_states = devices_back p.touch_states i;
      wheel = wheel_back p.wheel i;
      keys = keys_back p.keys h i;
      sums = sums_back p.sums i;
      interaction = interaction_back p.interaction i;
      tally = p.tally;
    }

pub panel_forth : (v : El panel_code) → In panel_code v → el (panel_of v) ≡ v
panel_forth v h = (λ i. (fixed i, (history_of_el v.1.0 i, (events_forth v.1.1.0 h.1.1.0.2 i, devices_forth v.1.1.1 h.1.1.1 i))))
  where
    fixed : fixed_el (panel_of v) ≡ v.0
    fixed i = (
      clock_forth v.0.0 i,
      (
        screen_forth v.0.1.0 h.0.1.0 i,
        (
          place_forth v.0.1.1.0 (history_of v.1.0) i,
          (
            press_forth v.0.1.1.1.0 h.0.1.1.1.0 (events_of_el v.1.1.0) i,
            (
              wheel_forth v.0.1.1.1.1.0 h.0.1.1.1.1.0 i,
              (
                keys_forth v.0.1.1.1.1.1.0 h.0.1.1.1.1.1.0 i,
                (
                  sums_forth v.0.1.1.1.1.1.1.0 i,
                  (interaction_forth v.0.1.1.1.1.1.1.1.0 i, v.0.1.1.1.1.1.1.1.1),
                ),
              ),
            ),
          ),
        ),
      ),
    )
