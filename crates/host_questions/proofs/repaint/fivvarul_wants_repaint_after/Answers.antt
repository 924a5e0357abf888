use Rattle.host_questions.proofs.repaint.fivvarul_wants_repaint_after.Goals as goal

pub returns : goal.returns
returns c = record { devices = c.devices-devices.result; devices_are = c.devices-devices.ensures; holds = rw c.into.ensures (rw (c.clock-clock.ensures, c.screen-screen.ensures, c.pointer-pointer.ensures, c.wheel-wheel.ensures, c.keys-keys.ensures) at c.wants_repaint_after.ensures) }
