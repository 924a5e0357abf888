-- A panel that was taken can be parked in turn: its numbers are in the fields' ranges, its devices in order. Assumes nothing.
use mathlib.Core.Path.{sym, subst}
use mathlib.Core.Bool.{◌&&◌}
use lib.Dec.{T}
use lib.Ieee.Fits.{and_i}
use Rattle.data.specs.Limits.{coordinate_ok, length_ok, unit_interval_ok, duration_ok, pos_ok, rect_ok, options_ok}
use Rattle.image.specs.Codes.{El, In}
use Rattle.image.specs.Places.{value_at}
use Rattle.image_screen.specs.Screen.{rect_code, rect_of, options_code, options_of}
use Rattle.image_pointer.proofs.Trip.{buttons_true}
use Rattle.image_devices.proofs.Back.{devices_in_order}
use Rattle.image_form.specs.Form.{panel_code, panel_of, Parkable, TakenIsParkable}
use Rattle.image_form.specs.Placed.{groups_place}
use Rattle.image_form.proofs.Whole.{image_taken, value_in}

rect_in : (v : El rect_code) → In rect_code v → T (rect_ok (rect_of v))
unfolding rect_ok pos_ok
rect_in v h =
    let r = rect_of v in
    and_i (pos_ok r.min) (pos_ok r.max)
    (and_i (coordinate_ok v.0) (coordinate_ok v.1.0) h.0.1 h.1.0.1)
    (and_i (coordinate_ok v.1.1.0) (coordinate_ok v.1.1.1) h.1.1.0.1 h.1.1.1.1)

options_in : (v : El options_code) → In options_code v → T (options_ok (options_of v))
unfolding options_ok
options_in v h =
    let b = unit_interval_ok v.1.0 in
    let c = length_ok v.1.1.0 in
    let d = duration_ok v.1.1.1.0 in
    let e = duration_ok v.1.1.1.1.0 in
    and_i (length_ok v.0) (b && (c && (d && e))) h.0.1 (and_i b (c && (d && e)) h.1.0.1 (and_i c (d && e) h.1.1.0.1 (and_i d e h.1.1.1.0.1 h.1.1.1.1.0.1)))

value_parkable : (v : El panel_code) → In panel_code v → Parkable (panel_of v)
value_parkable v h =
    let c = h.0.0 in
    let s = h.0.1.0 in
    record {
      in_range = ((c.0.1, c.1.1.1.1.1), (rect_in v.0.1.0.0 s.0, s.1.0.1, options_in v.0.1.0.1.1.1 s.1.1.1));
      in_order = devices_in_order v.1.1.1 h.1.1.1;
      count_true = buttons_true v.0.1.1.1.0.0;
    }

pub taken_is_parkable : TakenIsParkable
taken_is_parkable ws p h = let t = image_taken ws p h in subst Parkable (sym t.is) (value_parkable (value_at panel_code ws groups_place) (value_in ws t.sound))
