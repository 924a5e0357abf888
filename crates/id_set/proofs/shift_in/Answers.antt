use native.Mathlib.Omega.{arith}
use Rattle.id_set.proofs.Shift.{put_in}
use Rattle.id_set.proofs.shift_in.Goals as goal

pub returns : goal.returns
returns c = put_in _ _ _ _ c.requires.0 c.requires.1 _ c.copy_within.ensures.after (omega (arith, c.copy_within.ensures.len))
