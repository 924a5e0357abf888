use Rattle.host_questions.proofs.zoom.fivvarul_zoom_delta.Goals as goal

pub returns : goal.returns
returns c = record { devices = c.devices-devices.result; devices_are = c.devices-devices.ensures; holds = rw (c.sums-sums.ensures, ← c.into.ensures) at c.zoom_delta.ensures }
