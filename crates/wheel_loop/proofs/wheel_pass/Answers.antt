use Rattle.model.specs.Wheel.{wheel_pass}
use Rattle.wheel_loop.proofs.wheel_pass.Goals as goal

pub returns : goal.returns
unfolding wheel_pass
returns c = rw (← c.clear_smooth-cleared.ensures, ← c.wheel_events-scrolled.ensures) c.after_events.ensures
