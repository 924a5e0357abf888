use mathlib.Core.Path.{sym, ◌∙◌}
use Rattle.model.specs.Interact.{get, new_drag}
use Rattle.interaction_state.proofs.Looked.{looked_up}
use Rattle.interaction_state.proofs.Dragged.{unknown_drag, known_drag}
use Rattle.interaction_state.proofs.drag.new_drag.Goals as goal

pub returns-in_err-d : goal.returns-in_err-d
unfolding get new_drag
returns-in_err-d c x edges hc hk = rw (c.from_residual.ensures, c.in_err-d.was)

pub returns-in_err-f : goal.returns-in_err-f
unfolding get
returns-in_err-f c x edges hc hk =
    rw (c.from_residual-in_err-f.ensures, c.in_ok-d.was) (unknown_drag x _ _ (sym (c.look_up.ensures edges) ∙ c.in_err-f.was))

pub returns : goal.returns
unfolding get
returns c x edges hc hk =
    rw (c.in_ok-d.was, c.then_some.ensures)
    (known_drag x _ _ _ (looked_up _ _ _ edges _) _ (sym (c.look_up.ensures edges) ∙ c.in_ok-f.was) _ (c.is_dragged.ensures x hc hk))
