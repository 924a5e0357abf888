use Rattle.host_questions.proofs.zoom.fivvarul_translation_delta.Goals as goal

pub returns : goal.returns
returns c = record { devices = c.devices-devices.result; devices_are = c.devices-devices.ensures; holds = rw c.into.ensures (rw c.sums-sums.ensures at c.translation_delta.ensures) }
