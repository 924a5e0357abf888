use mathlib.Core.Path.{◌≡◌}
use mathlib.Core.List.{map}
use lib.ListN.{drop}
use Rattle.model.specs.Touch.{any_touches}
use Rattle.touch_device.specs.View.{device_view}
use Rattle.touch_questions.proofs.any_touches.Given as goal

abbrev pub invariant-loop-d : goal.invariant-loop-d
invariant-loop-d l = any_touches (map device_view (drop l.d-index l.d-items)) ≡ any_touches (map device_view l.d-items)
