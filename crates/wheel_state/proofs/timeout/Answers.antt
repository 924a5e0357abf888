use Rattle.model.specs.Wheel.{timeout, scroll_action_timeout, resting_finger_timeout}
use lib.Ieee.{of_bits}
use Rattle.wheel_state.proofs.timeout.Goals as goal

pub returns-then-is_in_touch-is_trackpad : goal.returns-then-is_in_touch-is_trackpad
unfolding timeout scroll_action_timeout resting_finger_timeout of_bits
returns-then-is_in_touch-is_trackpad c = rw (← c.is_trackpad.ensures, ← c.is_in_touch.ensures, c.if-is_in_touch-is_trackpad.true)

pub returns : goal.returns
unfolding timeout scroll_action_timeout resting_finger_timeout of_bits
returns c = rw (← c.is_trackpad.ensures, ← c.is_in_touch.ensures, c.if-is_in_touch-is_trackpad.false)
