use mathlib.Core.Path.{◌≡◌}
use mathlib.Core.List.{map}
use lib.ListN.{drop}
use Rattle.model.specs.Touch.{multi_touch}
use Rattle.touch_device.specs.View.{device_view}
use Rattle.touch_questions.proofs.multi_touch.Given as goal

abbrev pub invariant-loop-d : goal.invariant-loop-d
invariant-loop-d l = multi_touch (map device_view (drop l.d-index l.d-items)) ≡ multi_touch (map device_view l.d-items)
