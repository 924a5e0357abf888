use mathlib.Core.Path.{◌≡◌}
use borrow.Author.Tests.{lt-ltb}
use lib.ListN.{length}
use Rattle.host_touch.proofs.Back.{kept_four}
use Rattle.host_touch.proofs.all.keep_all.Goals as goal

pub returns : goal.returns
returns c =
    let ds = c.args.ds in
    let l : length ds.places ≡ 4 = c.well_formed.0.1.1.1.0.1.0.1 in
    kept_four _ ds.count ds.places _ _ _ _ _ l c.len-n.ensures
    (λ h. c.keep_if-s0.ensures (lt-ltb _ _ h))
    (λ h. c.keep_if-s1.ensures (lt-ltb _ _ h))
    (λ h. c.keep_if-s2.ensures (lt-ltb _ _ h))
    (λ h. c.keep_if-s3.ensures (lt-ltb _ _ h))
