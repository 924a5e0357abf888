use mathlib.Core.Path.{◌≡◌, ◌∙◌}
use native.Mathlib.Omega.{arith}
use lib.ListN.{length}
use Rattle.image_devices.proofs.Rows.{put_none, none_length, each_none, put_more, more_length, each_device}
use borrow.Author.Rules.{rules}
use Rattle.image_devices.proofs.rows_put.Goals as goal

pub loop-i-init : goal.loop-i-init
loop-i-init c = (omega arith, put_none _ _ c.args.places, each_none c.args.places, none_length c.args.places)

pub loop-i-preserved : goal.loop-i-preserved
loop-i-preserved c =
    let l = c.loop-i in
    let a = c.args in
    let d = c.device_put.ensures in
    let t : length a.places ≡ 4 = search rules in (
      omega arith,
      d.0 ∙ rw l.invariant.1 (put_more a.places l.i _ (omega arith) a.out.now a.at l.invariant.3),
      each_device a.places l.i _ (omega arith) l.invariant.2 d.1,
      more_length a.places l.i _ (omega arith) l.invariant.3 d.2,
    )
