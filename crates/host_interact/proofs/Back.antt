-- An interaction read back from what was written of it is the interaction. Assumes nothing.
use Prim.Native.Nat.{ℕ}
use mathlib.Core.Path.{◌≡◌, ap, ◌∙◌}
use mathlib.Core.Bool.{Bool}
use mathlib.Core.List.{List}
use Rattle.interaction_state.specs.declared.state.Interaction.{Interaction}
use Rattle.host_values.proofs.Back.{given_back}
use Rattle.host_interact.specs.Held.{interaction_at, ids_of, flags_of}

interaction_back : (n : Interaction) → interaction_at (ids_of n) (flags_of n) ≡ n
interaction_back n = rw (given_back n.potential_click_id 0, given_back n.potential_drag_id 0, given_back n.dragged 0)

pub written : (n : Interaction) (ids : List ℕ) (flags : List Bool) → ids ≡ ids_of n → flags ≡ flags_of n → interaction_at ids flags ≡ n
written n ids flags a b = ap (λ l. interaction_at l flags) a ∙ ap (λ l. interaction_at (ids_of n) l) b ∙ interaction_back n
