use mathlib.Core.Path.{◌≡◌, refl}
use mathlib.Core.Bool.{true}
use Rattle.model_calls.specs.Clicks as Clicks
use Rattle.model_calls.specs.Places as Places
use Rattle.model_calls.specs.Inputs as Inputs
use Rattle.model_calls.specs.Wheels as Wheels
use Rattle.model_calls.specs.Touches as Touches
use Rattle.model_calls.specs.Refusals as Refusals
use Rattle.model_calls.specs.Interacts as Interacts
use Rattle.model_calls.specs.Widgets as Widgets
use Rattle.model_calls.specs.Chances as Chances
use Rattle.model_calls.specs.Exchanges.{check_all}
use Rattle.model_calls.specs.Recorded.{Recorded}
use Rattle.model_calls.proofs.Opened.{opened}

clicks_recorded : check_all Clicks.table ≡ true
unfolding opened
clicks_recorded = refl

places_recorded : check_all Places.table ≡ true
unfolding opened
places_recorded = refl

inputs_recorded : check_all Inputs.table ≡ true
unfolding opened
inputs_recorded = refl

wheels_recorded : check_all Wheels.table ≡ true
unfolding opened
wheels_recorded = refl

touches_recorded : check_all Touches.table ≡ true
unfolding opened
touches_recorded = refl

refusals_recorded : check_all Refusals.table ≡ true
unfolding opened
refusals_recorded = refl

interacts_recorded : check_all Interacts.table ≡ true
unfolding opened
interacts_recorded = refl

widgets_recorded : check_all Widgets.table ≡ true
unfolding opened
widgets_recorded = refl

chances_recorded : check_all Chances.table ≡ true
unfolding opened
chances_recorded = refl

pub recorded : Recorded
recorded = record { clicks = clicks_recorded; places = places_recorded; inputs = inputs_recorded; wheels = wheels_recorded; touches = touches_recorded; refusals = refusals_recorded; interacts = interacts_recorded; widgets = widgets_recorded; chances = chances_recorded }
