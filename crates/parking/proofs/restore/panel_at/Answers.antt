use mathlib.Core.Path.{ap, ◌∙◌}
use native.Mathlib.Omega.{arith}
use Rattle.data.specs.Limits.{max_devices, max_touches}
use Rattle.image.specs.Places.{bad_at, value_at}
use Rattle.image_devices.specs.Devices.{devices_code, devices_of}
use Prim.Native.Nat.{ℕ}
use Rattle.parking.proofs.Whole.{all_sound, devices_place_is, state_is, panel_held}
use Rattle.parking.proofs.restore.panel_at.Goals as goal

pub devices_at-devices-requires : goal.devices_at-devices-requires
devices_at-devices-requires c =
    let ws = c.args.words.now in
    let h = all_sound ws c.requires in
    let k = c.events_place.ensures in
    let d = c.devices_place.ensures in
    (omega (arith, d.0), ap (bad_at (devices_code max_devices max_touches) ws) (devices_place_is ws _ _ h k.1 d.1) ∙ h.devices)

pub returns : goal.returns
returns c =
    let ws = c.args.words.now in
    let h = all_sound ws c.requires in
    let e = devices_place_is ws _ _ h c.events_place.ensures.1 c.devices_place.ensures.1 in
    panel_held ws _ _ _ c.input_at-input.ensures
    (state_is ws _ _ _ _ _ _ c.input_at-input.ensures (c.devices_at-devices.ensures ∙ ap (λ (i : ℕ). devices_of (value_at (devices_code max_devices max_touches) ws i)) e) c.interaction_at-interaction.ensures c.tally_at.ensures)
