use mathlib.Core.Path.{◌≡◌, sym}
use mathlib.Core.Logic.{inl, inr}
use native.Mathlib.Omega.{arith}
use lib.ListN.{length, take, length-take}
use Prim.Native.Nat.{◌≤◌}
use Rattle.data.specs.Limits.{max_touches}
use Rattle.model.specs.Touch.{on_touch}
use Rattle.touches.specs.Touches.{on_touch_if_room}
use Rattle.touches.proofs.Upsert.{fits, length_move, length_remove}
use Rattle.touches.proofs.on_touch.Goals as goal

pub returns-in-Start : goal.returns-in-Start
unfolding on_touch_if_room on_touch
returns-in-Start c = rw (c.in-Start.is, c.insert.ensures)

pub returns-in-Move : goal.returns-in-Move
unfolding on_touch_if_room on_touch
returns-in-Move c =
    let ts = c.args.ts in
    let l : length ts.places ≡ max_touches = c.well_formed.0.1.1.1.0.1.0.1 in
    let b : length (take ts.count ts.places) ≤ max_touches = omega (arith, length-take ts.count ts.places) in
    rw (c.in-Move.is, c.move_to.ensures) (sym (fits _ _ (rw length_move b)))

pub returns-in-End : goal.returns-in-End
unfolding on_touch_if_room on_touch
returns-in-End c =
    let ts = c.args.ts in
    let l : length ts.places ≡ max_touches = c.well_formed.0.1.1.1.0.1.0.1 in
    let b : length (take ts.count ts.places) ≤ max_touches = omega (arith, length-take ts.count ts.places) in
    let f = sym (fits _ (take ts.count ts.places) (omega (arith, length_remove c.args.t.id (take ts.count ts.places)))) in
    elim c.in-End.is [
      | inl e ↦ rw (e, c.remove.ensures) f
      | inr e ↦ rw (e, c.remove.ensures) f
    ]
