use mathlib.Core.Path.{refl}
use Rattle.host_pass.proofs.Passing.{when_refused, when_kept}
use Rattle.host.proofs.passes.fivvarul_pass.Goals as goal

pub returns-in-Err : goal.returns-in-Err
returns-in-Err c =
    when_refused _ _ _ _ _ _ _ _ _ c.input-input.ensures c.devices-devices.ensures c.pass_input-i.ensures c.in-Err.ensures
    _ _ refl c.refused.ensures

pub returns-in-Ok : goal.returns-in-Ok
returns-in-Ok c =
    when_kept _ _ _ _ _ _ _ _ _ c.input-input.ensures c.devices-devices.ensures c.pass_input-i.ensures c.in-Ok.ensures
    _ _ _ _ refl c.taken.ensures c.seconds.ensures c.floats.ensures c.counts.ensures c.flags.ensures c.keys_down.ensures
    c.keep_all-n.ensures
