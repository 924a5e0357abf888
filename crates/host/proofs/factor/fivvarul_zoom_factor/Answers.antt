use mathlib.Core.Path.{refl}
use Rattle.host.proofs.factor.fivvarul_zoom_factor.Goals as goal

pub returns-in-Ok : goal.returns-in-Ok
returns-in-Ok c = record { answer = c.zoom_factor.result; answers = c.zoom_factor.ensures; crosses = rw c.in-Ok.is (refl, refl) }

pub returns-in-Err : goal.returns-in-Err
returns-in-Err c = record { answer = c.zoom_factor.result; answers = c.zoom_factor.ensures; crosses = rw c.in-Err.is c.number.ensures }
