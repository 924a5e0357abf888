use Prim.Native.Nat.{suc, ◌+◌, ◌*◌}
use mathlib.Core.Path.{◌≡◌}
use native.Mathlib.Omega.{arith}
use Rattle.pointer_events.proofs.Stored.{put_row}
use Rattle.pointer_events.proofs.set_position.Goals as goal

pub returns : goal.returns
returns c =
    let one : c.args.i * 2 + 1 ≡ suc (c.args.i * 2) = omega arith in
    rw one (put_row _ _ _ _ _ c.copy_from_slice.ensures.after (omega arith) (omega arith))
