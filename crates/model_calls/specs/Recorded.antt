-- Written by compare/vectors/model_calls.py: on every recorded call the model answers egui's words. proofs/Recorded.antt shows it by evaluation.
use Rattle.std.specs.Prelude.{◌≡◌, true}
use Rattle.model_calls.specs.Clicks as Clicks
use Rattle.model_calls.specs.Places as Places
use Rattle.model_calls.specs.Inputs as Inputs
use Rattle.model_calls.specs.Wheels as Wheels
use Rattle.model_calls.specs.Touches as Touches
use Rattle.model_calls.specs.Refusals as Refusals
use Rattle.model_calls.specs.Interacts as Interacts
use Rattle.model_calls.specs.Widgets as Widgets
use Rattle.model_calls.specs.Chances as Chances
use Rattle.model_calls.specs.Exchanges.{check_all}

pub record Recorded : Type 0 where
  pub clicks : check_all Clicks.table ≡ true
  pub places : check_all Places.table ≡ true
  pub inputs : check_all Inputs.table ≡ true
  pub wheels : check_all Wheels.table ≡ true
  pub touches : check_all Touches.table ≡ true
  pub refusals : check_all Refusals.table ≡ true
  pub interacts : check_all Interacts.table ≡ true
  pub widgets : check_all Widgets.table ≡ true
  pub chances : check_all Chances.table ≡ true
