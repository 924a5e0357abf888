-- A promise of the devices that the memory holds, which is stated of `Devices`: it holds of some that show them.
use Rattle.std.specs.Prelude.{◌≡◌, List}
use Rattle.model.specs.Touch.{TouchState}
use Rattle.touch_state.specs.declared.devices.Devices.{Devices}
use Rattle.touch_state.specs.View.{view}

pub record Shown (vs : List TouchState) (P : Devices → Type 0) : Type 0 where
  pub devices : Devices
  pub devices_are : view devices ≡ vs
  pub holds : P devices
