use Prim.Native.Nat.{◌+◌}
use mathlib.Core.Path.{◌≡◌}
use native.Mathlib.Omega.{arith}
use Rattle.image.specs.Places.{value_at, span}
use Rattle.image_gesture.proofs.averages_at.Goals as goal

pub returns : goal.returns
unfolding value_at span
returns c =
    let at = c.args.at in
    let e : at + 1 + 2 ≡ at + 3 = omega arith in
    let f : at + 3 + 2 ≡ at + 5 = omega arith in
    let g : at + 5 + 1 ≡ at + 6 = omega arith in
    rw (c.vec_at-heading.ensures, c.single_at-avg_force.ensures, c.pos_at-avg_pos.ensures, c.vec_at-avg_abs_distance2.ensures, c.single_at-avg_distance.ensures, e, f, g)
