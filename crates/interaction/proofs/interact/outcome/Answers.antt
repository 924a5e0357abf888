use mathlib.Core.Path.{refl}
use Rattle.interaction.proofs.Taken.{answers}
use Rattle.interaction.proofs.interact.outcome.Goals as goal

pub returns : goal.returns
returns c ps x l hc =
    answers _ _ x _ _ _ (c.walked-g.ensures ps x l) (c.interaction_after-after.ensures x l.edges l.widgets hc l.click_hit) refl refl c.if_changed.ensures c.if_changed-2.ensures
