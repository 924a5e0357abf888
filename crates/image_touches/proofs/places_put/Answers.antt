use borrow.Author.Rules.{rules}
use Rattle.image_touches.proofs.Walk.{put_none, each_none, put_more, each_touch}
use lib.ListN.{length}
use mathlib.Core.Path.{◌≡◌, ◌∙◌}
use native.Mathlib.Omega.{arith}
use Rattle.image_touches.proofs.places_put.Goals as goal

pub loop-i-init : goal.loop-i-init
loop-i-init c = (omega arith, put_none _ _ c.args.places, each_none c.args.places)

pub loop-i-preserved : goal.loop-i-preserved
loop-i-preserved c =
    let l = c.loop-i in
    let a = c.args in
    let t : length a.places ≡ 10 = search rules in (
      omega arith,
      c.copy.ensures ∙ rw (l.invariant.1, c.touch_words-part.ensures.0) (put_more a.places l.i _ (omega arith) a.out.now a.at),
      each_touch a.places l.i _ (omega arith) l.invariant.2 c.touch_words-part.ensures.1,
    )
