use Rattle.host_questions.proofs.touching.fivvarul_is_long_touch.Goals as goal

pub returns : goal.returns
returns c = record { devices = c.devices-devices.result; devices_are = c.devices-devices.ensures; holds = (rw (c.clock-clock.ensures, c.screen-screen.ensures, c.pointer-pointer.ensures) at c.is_long_touch.ensures) }
