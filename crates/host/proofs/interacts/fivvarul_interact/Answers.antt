use mathlib.Core.Path.{refl}
use Rattle.host_interact.proofs.Back.{written}
use Rattle.host.proofs.interacts.fivvarul_interact.Goals as goal

pub returns-in-Err : goal.returns-in-Err
returns-in-Err c =
    record {
      devices = _;
      devices_are = c.devices-devices.ensures;
      answer = _;
      panels = rw (c.clock-clock.ensures, c.screen-screen.ensures, c.pointer-pointer.ensures, c.interaction-interaction.ensures, c.hit-click.ensures, c.hit-drag.ensures) at c.interact.ensures;
      leaves = rw c.in-Err.is (record { answer = c.into.ensures; ids_kept = refl; flags_kept = refl; tally_kept = refl });
    }

pub returns-in-Ok : goal.returns-in-Ok
returns-in-Ok c =
    record {
      devices = _;
      devices_are = c.devices-devices.ensures;
      answer = _;
      panels = rw (c.clock-clock.ensures, c.screen-screen.ensures, c.pointer-pointer.ensures, c.interaction-interaction.ensures, c.hit-click.ensures, c.hit-drag.ensures) at c.interact.ensures;
      leaves = rw c.in-Ok.is (record { number = c.into-in-Ok.ensures.0; snapshot = c.into-in-Ok.ensures.1; interaction = written _ _ _ c.ids.ensures c.flags.ensures; tally = refl });
    }
