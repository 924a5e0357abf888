use native.Mathlib.Omega.{arith}
use lib.ListN.{length-set}
use Rattle.image.specs.Codes.{write}
use Rattle.image_fixed.specs.Fixed.{fixed_code}
use Rattle.input_state.specs.View.{lent}
use Rattle.panel.specs.View.{shown_by}
use Rattle.image_form.specs.Form.{fixed_el, image}
use Rattle.parking.specs.Parked.{lists_code, lists_el, words_of}
use Rattle.parking.proofs.Writes.{fixed_length, whole_image}
use Rattle.parking.proofs.park.image_put.Goals as goal

pub bounds-out-0 : goal.bounds-out-0
unfolding words_of
bounds-out-0 c = let h = c.requires in omega (arith, h)

pub fixed_put-requires : goal.fixed_put-requires
unfolding words_of
fixed_put-requires c = let h = c.requires in rw length-set (omega (arith, h))

pub returns : goal.returns
unfolding image write
returns c =
    let a = c.args in
    let p = shown_by (lent a.ring.times.now a.ring.positions.now a.stored.codes.now a.stored.positions.now a.presses.now) a.panel in
    let f = c.fixed_put.ensures in
    let l = c.lists_put.ensures in (
      whole_image a.out.now _ _ (write fixed_code (fixed_el p)) (write lists_code (lists_el p)) f.0 l.0 (fixed_length p),
      λ h. (f.1 h.in_range, l.1 h.in_order),
    )
