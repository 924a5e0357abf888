-- The devices in a pass: its touch events, with `later` refused after them, and if there is no refusal its end.
use Rattle.std.specs.Prelude.{ℕ, ◌≡◌, List, map, Float, Option, Result, IfOk}
use Rattle.model.specs.Types.{Pos2}
use Rattle.model.specs.Touch.{TouchState, end_touches}
use Rattle.event_loop.specs.Lists.{listed_events}
use Rattle.touch_state.specs.View.{view}
use Rattle.survey.specs.Survey.{option, fits_events, crowd_then}
use Rattle.touch_state.specs.declared.devices.Devices.{Devices}
use Rattle.data.specs.declared.refusal.PassRefusal.{PassRefusal}

pub record TouchPassed (ws ps : List ℕ) (later : Option PassRefusal) (time : Float) (pos : Option Pos2) (vs : List TouchState) (r : Result Devices PassRefusal) : Type 0 where
  pub refusal : option r ≡ crowd_then ws ps (λ us. later) vs
  pub devices : IfOk r (λ ds. view ds ≡ map (end_touches time pos (listed_events ws ps)) (fits_events (listed_events ws ps) vs))
