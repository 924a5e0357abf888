use Rattle.std.specs.Prelude.{Option}
use Rattle.model.specs.Pass.{or_else}
use Prim.Native.Nat.{ℕ}
use mathlib.Core.Path.{sym, ◌∙◌, ap}
use Rattle.model.specs.Types.{WidgetRect}
use Rattle.model.specs.Interact.{get, new_drag, dragged_after}
use Rattle.interaction_state.specs.View.{interaction_of}
use Rattle.interaction_state.proofs.drag.dragged_after.Goals as goal

pub returns-in-Some : goal.returns-in-Some
unfolding dragged_after or_else interaction_of
returns-in-Some c x edges hw hc hk = rw c.in-Some.is

pub returns-in-None : goal.returns-in-None
unfolding dragged_after or_else interaction_of
returns-in-None c x edges hw hc hk = rw c.in-None.is (c.new_drag.ensures x edges hc hk ∙ ap (λ (t : ℕ → Option WidgetRect). new_drag x c.args.dragging (get c.args.s.potential_drag_id t)) (sym hw))
