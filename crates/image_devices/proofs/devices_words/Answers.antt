use native.Mathlib.Omega.{arith}
use Rattle.touches.proofs.Places.{first_of}
use Rattle.image_devices.proofs.Rows.{group_length}
use Rattle.image_devices.proofs.devices_words.Goals as goal

pub returns : goal.returns
returns c =
    let ds = c.args.ds in
    let n = c.len-n.ensures in
    let w = c.rows_words.ensures in
    let t = first_of _ ds.count ds.places n in
    let g = group_length c.len-n.result ds.count ds.places t in
    (omega (arith, n, w.0), omega (arith, w.1, g))
