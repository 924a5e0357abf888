use borrow.Author.Rules.{rules}
use Rattle.std.specs.Prelude.{Some}
use mathlib.Core.Path.{◌≡◌, refl}
use Rattle.image.specs.Places.{or_else, bad_at}
use Rattle.image_words.specs.Leaves.{found}
use Rattle.image_fixed.specs.Fixed.{fixed_code}
use Rattle.image_form.specs.Placed.{groups_place}
use Rattle.parking.proofs.Whole.{groups_told}
use Rattle.parking.proofs.check.groups_bad.Goals as goal

pub returns-in_err-fixed_bad : goal.returns-in_err-fixed_bad
unfolding found or_else
returns-in_err-fixed_bad c =
    let e : found c.from_residual.result ≡ Some c.in_err-fixed_bad.field-0.0 = search rules in
    let t = groups_told c.args.words.now (bad_at fixed_code c.args.words.now groups_place) _ _ _ refl c.events_place-events.ensures.1 c.devices_place-devices.ensures.1 c.end_place-end.ensures in
    rw (e, ← t, ← c.in_err-fixed_bad.ensures)

pub returns-in_err-history_bad : goal.returns-in_err-history_bad
unfolding found or_else
returns-in_err-history_bad c =
    let e : found c.from_residual-in_err-history_bad.result ≡ Some c.in_err-history_bad.field-0.0 = search rules in
    let t = groups_told c.args.words.now (bad_at fixed_code c.args.words.now groups_place) _ _ _ refl c.events_place-events.ensures.1 c.devices_place-devices.ensures.1 c.end_place-end.ensures in
    rw (e, ← t, ← c.in_ok-fixed_bad.ensures, ← c.in_err-history_bad.ensures)

pub returns-in_err-events_bad : goal.returns-in_err-events_bad
unfolding found or_else
returns-in_err-events_bad c =
    let e : found c.from_residual-in_err-events_bad.result ≡ Some c.in_err-events_bad.field-0.0 = search rules in
    let t = groups_told c.args.words.now (bad_at fixed_code c.args.words.now groups_place) _ _ _ refl c.events_place-events.ensures.1 c.devices_place-devices.ensures.1 c.end_place-end.ensures in
    rw (e, ← t, ← c.in_ok-fixed_bad.ensures, ← c.in_ok-history_bad.ensures, ← c.in_err-events_bad.ensures)

pub returns-in_err-devices_bad : goal.returns-in_err-devices_bad
unfolding found or_else
returns-in_err-devices_bad c =
    let e : found c.from_residual-in_err-devices_bad.result ≡ Some c.in_err-devices_bad.field-0.0 = search rules in
    let t = groups_told c.args.words.now (bad_at fixed_code c.args.words.now groups_place) _ _ _ refl c.events_place-events.ensures.1 c.devices_place-devices.ensures.1 c.end_place-end.ensures in
    rw (e, ← t, ← c.in_ok-fixed_bad.ensures, ← c.in_ok-history_bad.ensures, ← c.in_ok-events_bad.ensures, ← c.in_err-devices_bad.ensures)

pub returns : goal.returns
unfolding found or_else
returns c =
    let t = groups_told c.args.words.now (bad_at fixed_code c.args.words.now groups_place) _ _ _ refl c.events_place-events.ensures.1 c.devices_place-devices.ensures.1 c.end_place-end.ensures in
    rw (← t, ← c.in_ok-fixed_bad.ensures, ← c.in_ok-history_bad.ensures, ← c.in_ok-events_bad.ensures, ← c.in_ok-devices_bad.ensures, c.end_bad.ensures)
