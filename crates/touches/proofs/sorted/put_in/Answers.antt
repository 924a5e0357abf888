use native.Mathlib.Omega.{arith}
use Rattle.touches.proofs.Found.{put_there}
use Rattle.touches.proofs.sorted.put_in.Goals as goal

pub returns : goal.returns
returns g c = put_there _ _ _ _ c.requires.0 c.requires.1 _ c.copy_within.ensures.after (omega (arith, c.copy_within.ensures.len))
