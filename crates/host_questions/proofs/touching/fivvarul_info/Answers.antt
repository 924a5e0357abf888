use Rattle.host_questions.proofs.touching.fivvarul_info.Goals as goal

pub returns : goal.returns
returns c = record { devices = c.devices-devices.result; devices_are = c.devices-devices.ensures; holds = rw c.into.ensures c.info.ensures }
