use mathlib.Core.Path.{◌≡◌}
use mathlib.Core.Bool.{and-true, and-false}
use Prim.Native.Nat.{◌≤◌, ◌<◌}
use native.Mathlib.Omega.{arith}
use borrow.Author.Tests.{le-leb, lt-leb}
use lib.ListN.{length, length-take}
use Rattle.data.specs.Limits.{max_touches}
use Rattle.model.specs.Touch.{no_place}
use Rattle.touches.specs.Touches.{list}
use Rattle.touch_device.proofs.is_full.Goals as goal

pub returns-then-d-lt-MAX_TOUCHES : goal.returns-then-d-lt-MAX_TOUCHES
unfolding no_place
returns-then-d-lt-MAX_TOUCHES c =
    let ts = c.args.d.touches in
    let room : length (list ts) < max_touches = omega (arith, length-take ts.count ts.places) in
    rw (lt-leb max_touches (length (list ts)) room, and-false)

pub returns-then-is_start : goal.returns-then-is_start
unfolding no_place
returns-then-is_start c =
    let ts = c.args.d.touches in
    let l : length ts.places ≡ max_touches = c.well_formed.0.1.1.1.0.1.1.1.0.1.0.1 in
    let full : max_touches ≤ length (list ts) = omega (arith, length-take ts.count ts.places) in
    rw (← c.is_start.ensures, c.if-is_start.true, c.holds.ensures, le-leb max_touches (length (list ts)) full, and-true)

pub returns-else-is_start : goal.returns-else-is_start
unfolding no_place
returns-else-is_start c = rw (← c.is_start.ensures, c.if-is_start.false)
