use Rattle.image_history.proofs.Fill.{each_none, each_sample, put_none, put_more}
use mathlib.Core.Path.{◌∙◌}
use native.Mathlib.Omega.{arith}
use Rattle.image_history.proofs.samples_put.Goals as goal

pub loop-i-init : goal.loop-i-init
loop-i-init c = (omega arith, put_none _ _ _ _ _, each_none _ _ _)

pub loop-i-preserved : goal.loop-i-preserved
loop-i-preserved c =
    let l = c.loop-i in
    let a = c.args in (
      omega arith,
      c.copy.ensures ∙ rw (l.invariant.1, c.sample_words-part.ensures.0) (put_more a.out.now a.at a.start l.i a.ring.times.now a.ring.positions.now),
      each_sample a.start l.i a.ring.times.now a.ring.positions.now l.invariant.2 c.sample_words-part.ensures.1,
    )
