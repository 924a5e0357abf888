use Rattle.image_touches.proofs.Walk.{count_le, put_all}
use Prim.Native.Nat.{◌-◌}
use Rattle.touches.proofs.Places.{first_of}
use mathlib.Core.Path.{◌∙◌}
use Rattle.image_touches.proofs.touches_put.Goals as goal

pub returns : goal.returns
returns c =
    let a = c.args in
    let n = c.len-n.ensures in
    let t = first_of _ a.ts.count a.ts.places n in
    (c.zeros_put.ensures ∙ rw c.places_put.ensures.0 (put_all a.out.now a.at _ a.ts.count a.ts.places n t), rw t at c.places_put.ensures.1, count_le a.ts.count a.ts.places (c.well_formed.0.1.1.1.0.1.0.1))
