use Rattle.host_questions.proofs.touching.fivvarul_multi_touch.Goals as goal

pub returns : goal.returns
returns c = record { devices = c.devices-devices.result; devices_are = c.devices-devices.ensures; holds = rw c.into.ensures c.multi_touch.ensures }
