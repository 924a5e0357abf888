use Rattle.touch_device.specs.View.{device_view}
use Rattle.image_devices.proofs.Rows.{entry_length, put_device}
use Rattle.image_devices.proofs.device_put.Goals as goal

pub returns : goal.returns
returns c =
    let t = c.touches_put.ensures in
    let g = c.gesture_put.ensures in
    let a = c.args in
    let v = device_view a.d in (
      rw (g.0, t.0, c.low.ensures, c.high.ensures) (put_device a.out.now a.at v t.2),
      (t.1, g.1),
      entry_length v t.2,
    )
