use mathlib.Core.Path.{◌≡◌}
use lib.ListN.{length}
use Rattle.host_touch.proofs.Back.{kept_none, kept_some}
use Rattle.host_touch.proofs.kept.keep.Goals as goal

pub returns-in-None : goal.returns-in-None
returns-in-None c =
    let d = c.args.d in
    let l : length d.touches.places ≡ 10 = c.well_formed.0.1.1.1.0.1.1.1.0.1.0.1 in
    kept_none d _ _ _ _ _ l c.put_touches.ensures.id c.put_touches.ensures.numbers c.put_touches.ensures.given c.in-None.is

pub returns-in-Some : goal.returns-in-Some
returns-in-Some c =
    let d = c.args.d in
    let l : length d.touches.places ≡ 10 = c.well_formed.0.1.1.1.0.1.1.1.0.1.0.1 in
    kept_some d _ _ _ _ _ _ _ l
    c.put_touches.ensures.id
    c.put_touches.ensures.numbers c.put_gesture.ensures.numbers
    c.put_touches.ensures.given c.put_gesture.ensures.given
    c.in-Some.is
