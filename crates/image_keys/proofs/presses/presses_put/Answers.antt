use Rattle.image_words.proofs.Laws.{sets_more}
use Rattle.image_keys.proofs.Rows.{each_take}
use Rattle.image_keys.specs.Keys.{press_code}
use Rattle.image.specs.Codes.{In, Each}
use lib.Seq.{sets, length-sets, take_all}
use lib.ListN.{take, get_or}
use Prim.Native.Nat.{◌≤◌}
use mathlib.Core.Path.{◌≡◌, refl, ap, subst, ◌∙◌}
use native.Mathlib.Omega.{arith}
use Rattle.image_keys.proofs.presses.presses_put.Goals as goal

pub loop-i-init : goal.loop-i-init
loop-i-init c = (omega arith, refl, tt)

pub bounds-presses-i : goal.bounds-presses-i
bounds-presses-i c = omega arith

pub overflow_add-out : goal.overflow_add-out
overflow_add-out c = omega arith

pub offset_bounds-out-at : goal.offset_bounds-out-at
offset_bounds-out-at c = omega arith

pub bounds-out-at : goal.bounds-out-at
bounds-out-at c = rw (c.loop-i.invariant.1, length-sets) (omega arith)

pub loop-i-smaller : goal.loop-i-smaller
loop-i-smaller c = omega arith

pub loop-i-preserved : goal.loop-i-preserved
loop-i-preserved c =
    let l = c.loop-i in
    let h = c.loop-i-test.true in
    let p = c.args.presses.now in
    let w : get_or p l.i 0 ≤ 255 = omega (arith, c.type_inv.presses l.i) in
    (omega arith, rw l.invariant.1 (sets_more _ _ _ _ 0 h), each_take _ l.i (get_or p l.i 0) h refl w l.invariant.2)

pub shape_of-out : goal.shape_of-out
shape_of-out c = rw (c.loop-i.invariant.1, length-sets)

pub returns : goal.returns
returns c =
    let a = c.args in
    let l = c.loop-i.invariant in
    let e : take c.loop-i.i a.presses.now ≡ a.presses.now = take_all _ _ c.loop-i-test.false in
    (l.1 ∙ ap (sets a.out.now a.at) e, subst (Each (In press_code)) e l.2, c.requires.0)
