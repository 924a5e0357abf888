use mathlib.Core.Path.{◌≡◌, ◌∙◌}
use Rattle.model.specs.Interact.{is_some}
use Rattle.interaction.proofs.Taken.{same_is_some}
use Rattle.interaction.proofs.interact.full.Goals as goal

pub returns : goal.returns
returns c =
    let e : c.is_some.result ≡ is_some c.args.started = c.is_some.ensures ∙ same_is_some c.args.started in
    rw e
