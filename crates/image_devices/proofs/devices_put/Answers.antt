use mathlib.Core.Path.{◌∙◌}
use Rattle.touches.proofs.Places.{first_of}
use Rattle.image_devices.proofs.Rows.{put_all}
use Rattle.image_devices.proofs.devices_put.Goals as goal

pub returns : goal.returns
returns c =
    let a = c.args in
    let n = c.len-n.ensures in
    let t = first_of _ a.ds.count a.ds.places n in
    let r = c.rows_put.ensures in
    (r.0 ∙ put_all a.out.now a.at _ a.ds.count a.ds.places n t, rw t at r.1)
