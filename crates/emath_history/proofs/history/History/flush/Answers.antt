use Rattle.std.proofs.Common.{◌∙◌, rules, arith}
use Rattle.emath.specs.History.{max_age}
use Rattle.emath_history.proofs.Samples.{few, recent, dropped, flushed}
use Rattle.emath_history.proofs.history.History.flush.Goals as goal

pub loop-len-preserved : goal.loop-len-preserved
loop-len-preserved c =
    let l = c.loop-len in
    record {
      in_ring = search rules;
      held = omega (arith, l.invariant.held);
      same = λ positions. l.invariant.same positions ∙ dropped _ positions _ l.start l.len l.invariant.in_ring (search rules) c.if-times-start.true;
    }

pub returns-else-times-start : goal.returns-else-times-start
unfolding max_age
returns-else-times-start c =
    let l = c.loop-len in
    λ positions.
    flushed _ positions _ c.args.self _ _ c.count-len.ensures l.invariant.held (l.invariant.same positions)
    (recent _ positions _ l.start l.len l.invariant.in_ring (search rules) c.if-times-start.false)

pub returns-after-loop-len : goal.returns-after-loop-len
unfolding max_age
returns-after-loop-len c =
    let l = c.loop-len in
    λ positions.
    flushed _ positions _ c.args.self _ _ c.count-len.ensures l.invariant.held (l.invariant.same positions)
    (few _ positions _ l.start l.len (search rules))
