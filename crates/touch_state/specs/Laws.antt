-- Of devices in order, a touch event that finds a place fits: it is the model's, and the devices are in order again.
use Rattle.std.specs.Prelude.{ℕ, ◌≡◌, false, List, length}
use Rattle.model.specs.Types.{TouchPhase, ActiveTouch}
use Rattle.model.specs.Touch.{TouchState, touch_device, at_device, find_device, no_place, InOrder}
use Rattle.touch_state.specs.View.{fits_touch}

abbrev pub StepLaw : Type 0
StepLaw =
    (d : ℕ) (ph : TouchPhase) (t : ActiveTouch) (vs : List TouchState) → InOrder vs → no_place ph t.id (length vs) (find_device d vs) ≡ false
    → (fits_touch d ph t vs ≡ at_device d (touch_device ph t) vs) × InOrder (fits_touch d ph t vs)
