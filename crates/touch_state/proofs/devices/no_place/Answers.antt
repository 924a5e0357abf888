use Rattle.std.specs.Prelude.{None}
use mathlib.Core.Path.{◌∙◌, refl, sym, ap}
use mathlib.Core.List.{[]}
use lib.ListN.{length-map}
use Rattle.model.specs.Touch.{no_place}
use Rattle.touch_device.specs.declared.Device.{Device}
use Rattle.touches.proofs.Found.{index_found, index_lost}
use Rattle.touch_state.specs.View.{device_id}
use Rattle.touch_state.proofs.Known.{found_at, lost_at}
use Rattle.touch_state.proofs.devices.no_place.Goals as goal

-- what `get_or` answers past the end
nothing : Device
nothing = record { id = 0; touches = record { count = 0; places = [] }; gesture_state = None }

pub returns-in-None : goal.returns-in-None
unfolding no_place
returns-in-None c =
    rw (lost_at _ c.args.ds.now.count _ c.args.ds.now.places refl (index_lost device_id _ _ (sym c.index_of.ensures ∙ c.in-None.is)), length-map, c.len.ensures)

pub returns-then-is_start : goal.returns-then-is_start
unfolding no_place
returns-then-is_start c =
    let f = index_found device_id _ _ _ (sym c.index_of.ensures ∙ c.in-Some.is) in
    c.is_full.ensures ∙ sym (ap (no_place _ _ _) (found_at _ c.args.ds.now.count _ c.args.ds.now.places _ f.0 f.1))

pub returns-else-is_start : goal.returns-else-is_start
unfolding no_place
returns-else-is_start c =
    let f = index_found device_id _ _ _ (sym c.index_of.ensures ∙ c.in-Some.is) in
    rw (found_at _ c.args.ds.now.count _ c.args.ds.now.places nothing f.0 f.1, ← c.is_start.ensures, c.if-is_start.false)
