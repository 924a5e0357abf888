use Rattle.model.specs.Interact.{get, widget_id}
use mathlib.Core.Path.{sym, ◌∙◌}
use Rattle.interaction_state.proofs.Looked.{looked_up, known_is, unknown_is}
use Rattle.interaction_state.proofs.lookup.known_id.Goals as goal

pub returns-in_err-d : goal.returns-in_err-d
unfolding get widget_id
returns-in_err-d c edges = rw (c.from_residual.ensures, c.in_err-d.was)

pub returns-in_err-look_up : goal.returns-in_err-look_up
unfolding get
returns-in_err-look_up c edges =
    rw (c.from_residual-in_err-look_up.ensures, c.in_ok-d.was) (sym (unknown_is _ (sym (c.look_up.ensures edges) ∙ c.in_err-look_up.was)))

pub returns : goal.returns
unfolding get
returns c edges = rw c.in_ok-d.was (sym (known_is _ _ (looked_up _ _ _ edges _) _ (sym (c.look_up.ensures edges) ∙ c.in_ok-look_up.was)))
