use mathlib.Core.Path.{◌≡◌, ◌∙◌}
use Rattle.model.specs.Pass.{or_else}
use Rattle.model.specs.Interact.{has_click, pointer_event}
use Rattle.interaction_events.specs.View.{going_of}
use Rattle.interaction_events.proofs.Looked.{click_id_of, or_is, default_is}
use Rattle.interaction_events.proofs.clicked.Goals as goal

pub returns : goal.returns
unfolding pointer_event has_click going_of
returns c x edges hw k b =
    let n : c.or.result ≡ or_else c.known_id-known.result c.args.g.clicked = c.or.ensures ∙ or_is c.known_id-known.result c.args.g.clicked in
    rw (hw, click_id_of c.args.g.interaction, default_is c.default.result c.default.ensures, n, c.known_id-known.ensures edges)
