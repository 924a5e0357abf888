-- Groups 3 and 4: what stands for a record gives it back, and every value in range stands for one. Assumes nothing.
use Rattle.std.specs.Prelude.{Option, Float}
use Prim.Native.Nat.{ℕ}
use mathlib.Core.Path.{◌≡◌, refl, sym, ap, ◌∙◌}
use mathlib.Core.Bool.{Bool}
use mathlib.Core.List.{List}
use lib.Dec.{T}
use Rattle.emath.specs.History.{Sample}
use Rattle.data.specs.Modifiers.{modifiers_number, modifiers_of}
use Rattle.model.specs.Types.{ButtonsDown, Modifiers, PointerEvent}
use Rattle.model.specs.Pointer.{Place, Press, buttons, flags_down, CountTrue}
use Rattle.image.specs.Codes.{El, In}
use Rattle.image_words.specs.Leaves.{upto}
use Rattle.image_options.specs.Options.{five_bits}
use Rattle.image_options.proofs.Trip.{pos_back, pos_forth, vec_back, vec_forth, time_back, time_forth, boolean_back, boolean_forth, modifiers_in, modifiers_again, modifiers_forth}
use Rattle.image_pointer.specs.Place.{place_code, place_el, place_of}
use Rattle.image_pointer.specs.Press.{press_code, press_el, press_of, started_of, moved_of, buttons_number, buttons_of}

-- ---- five buttons are five bits, as five modifiers are
abbrev as_modifiers : ButtonsDown → Modifiers
as_modifiers d = record { alt = d.primary; ctrl = d.secondary; shift = d.middle; mac_cmd = d.extra1; command = d.extra2 }

abbrev as_buttons : Modifiers → ButtonsDown
as_buttons m = buttons m.alt m.ctrl m.shift m.mac_cmd m.command

pub buttons_in : (d : ButtonsDown) → T (upto five_bits (buttons_number d))
unfolding buttons_number modifiers_number
buttons_in d = modifiers_in (as_modifiers d)

-- the number worked out is the number that was there
pub buttons_back : (d : ButtonsDown) → CountTrue d → buttons_of (buttons_number d) ≡ d
unfolding buttons_number buttons_of modifiers_number modifiers_of buttons flags_down
buttons_back d h =
    ap as_buttons (modifiers_again (as_modifiers d))
    ∙ (λ j. record { primary = d.primary; secondary = d.secondary; middle = d.middle; extra1 = d.extra1; extra2 = d.extra2; count = sym h j })

-- and it is true whatever the word says
pub buttons_true : (w : ℕ) → CountTrue (buttons_of w)
unfolding buttons_of buttons flags_down
buttons_true w = refl

pub buttons_forth : (w : ℕ) → T (upto five_bits w) → buttons_number (buttons_of w) ≡ w
unfolding buttons_number buttons_of buttons modifiers_number modifiers_of
buttons_forth w h = modifiers_forth w h

-- ---- where the pointer is
pub place_back : (p : Place) → place_of (place_el p) p.pos_history ≡ p
place_back p = rw (pos_back p.latest_pos, pos_back p.interact_pos, vec_back p.motion)

pub place_forth : (v : El place_code) (samples : List Sample) → place_el (place_of v samples) ≡ v
place_forth v samples = rw (pos_forth v.0, pos_forth v.1.0, vec_forth v.1.1.1.0)

-- ---- presses and clicks
pub press_back : (p : Press) (started : Bool) (moved : Option Float) → CountTrue p.held.down → press_of (press_el p started moved) p.held.pointer_events ≡ p
press_back p started moved h =
    rw (
      buttons_back p.held.down h,
      pos_back p.held.press_origin,
      time_back p.held.press_start_time,
      boolean_back p.past.has_moved_too_much_for_a_click,
      pos_back p.past.last_click_pos,
    )

pub started_back : (p : Press) (started : Bool) (moved : Option Float) → started_of (press_el p started moved) ≡ started
started_back p started moved = boolean_back started

pub moved_back : (p : Press) (started : Bool) (moved : Option Float) → moved_of (press_el p started moved) ≡ moved
moved_back p started moved = time_back moved

pub press_forth : (v : El press_code) → In press_code v → (events : List PointerEvent) → press_el (press_of v events) (started_of v) (moved_of v) ≡ v
press_forth v h events =
    rw (
      buttons_forth v.0 h.0,
      pos_forth v.1.0,
      time_forth v.1.1.0,
      boolean_forth v.1.1.1.0 h.1.1.1.0,
      pos_forth v.1.1.1.1.0,
      boolean_forth v.1.1.1.1.1.1.1.0 h.1.1.1.1.1.1.1.0,
      time_forth v.1.1.1.1.1.1.1.1,
    )
