-- The touch events of a feed against the devices and touches that are held.
use Rattle.std.specs.Prelude.{ℕ, ◌≡◌, List, Option, Result, IfOk}
use Rattle.model.specs.Touch.{TouchState}
use Rattle.touch_state.specs.View.{view}
use Rattle.event_loop.specs.Lists.{listed_events}
use Rattle.survey.specs.Survey.{option, fits_events, crowd_then}
use Rattle.touch_state.specs.declared.devices.Devices.{Devices}
use Rattle.data.specs.declared.refusal.PassRefusal.{PassRefusal}

-- What the touch events at the places tell, with `later` refused after them: the first refusal, and if there is none the devices after them.
pub record Crowded (ws ps : List ℕ) (later : Option PassRefusal) (vs : List TouchState) (r : Result Devices PassRefusal) : Type 0 where
  pub refusal : option r ≡ crowd_then ws ps (λ us. later) vs
  pub devices : IfOk r (λ ds. view ds ≡ fits_events (listed_events ws ps) vs)
