use mathlib.Core.Path.{◌∙◌, sym}
use Rattle.gesture.proofs.Averages.{pinch, two_at, not_two}
use Rattle.gesture.proofs.classify.Goals as goal

pub returns-then-n-eq2 : goal.returns-then-n-eq2
unfolding pinch
returns-then-n-eq2 c = rw (c.classify_by.ensures, c.abs-dy.ensures, c.abs-dx.ensures) (two_at c.args.ts.count c.args.ts.places _ (sym c.len-n.ensures ∙ c.if-n-eq2.true))

pub returns : goal.returns
returns c = sym (not_two _ (λ e. c.if-n-eq2.false (c.len-n.ensures ∙ e)))
