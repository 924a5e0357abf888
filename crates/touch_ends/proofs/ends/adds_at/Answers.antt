use native.Mathlib.Omega.{arith}
use mathlib.Core.Path.{sym, ◌∙◌}
use Rattle.data.specs.Kinds.{touch_kind}
use Rattle.event_loop.proofs.OfKind.{not_of_kind}
use Rattle.touch_ends.proofs.Ended.{adds_idle}
use Rattle.touch_ends.proofs.ends.adds_at.Goals as goal

pub returns : goal.returns
returns c = sym (adds_idle _ _ (not_of_kind _ _ touch_kind (λ e. c.if-kind_at-eq-TOUCH_KIND.false (c.kind_at.ensures ∙ e)) (λ k. omega arith)))
