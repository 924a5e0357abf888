use borrow.Author.Tests.{lt-ltb}
use Rattle.host_touch.proofs.Back.{same_four}
use Rattle.host_touch.proofs.all.devices.Goals as goal

pub returns : goal.returns
returns c =
    same_four c.args.count _ _ _ _ _ _ _ _
    (λ l. c.device_if-d0.ensures (lt-ltb _ _ l))
    (λ l. c.device_if-d1.ensures (lt-ltb _ _ l))
    (λ l. c.device_if-d2.ensures (lt-ltb _ _ l))
    (λ l. c.device_if-d3.ensures (lt-ltb _ _ l))
