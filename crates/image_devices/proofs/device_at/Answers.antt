use Prim.Native.Nat.{◌+◌}
use mathlib.Core.Path.{◌≡◌}
use native.Mathlib.Omega.{arith}
use Rattle.image_devices.proofs.Rows.{value_device}
use Rattle.image_devices.proofs.device_at.Goals as goal

pub returns : goal.returns
returns c =
    let s = c.args in
    let e : s.at + 2 + 61 ≡ s.at + 63 = omega arith in
    rw (value_device s.words.now (s.at + 2), e, c.gesture_at-gesture_state.ensures, c.touches_at-touches.ensures, c.two_at-id.ensures)
