use Prim.Native.Nat.{◌+◌, ◌/◌}
use native.Mathlib.Omega.{arith}
use Rattle.zoom_factor.proofs.Patterns.{scaled}
use Rattle.zoom_factor.proofs.nearest.Goals as goal

pub returns : goal.returns
returns c = scaled ((c.args.sum + 128) / 256) (omega arith)
