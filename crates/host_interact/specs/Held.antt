-- The interaction that the host's memory holds, an id and a flag for each of its three; and a hit that the host gives. Any contents mean some interaction.
use Rattle.std.specs.Prelude.{ℕ, Bool, false, List, [], ◌∷◌, get_or, Option, is_some}
use Rattle.std.specs.Bool.{then_some}
use Rattle.std.specs.Option.{unwrap_or}
use Rattle.hit_lists.specs.declared.Hit.{Hit}
use Rattle.interaction_state.specs.declared.state.Interaction.{Interaction}

abbrev pub hit_of : Bool → ℕ → ℕ → Option Hit
hit_of given id sense = then_some given (record { id = id; sense = sense })

-- ---- the places
abbrev pub click : ℕ
click = 0

abbrev pub drag : ℕ
drag = 1

abbrev pub dragged : ℕ
dragged = 2

-- ---- read
abbrev pub id_at : List ℕ → List Bool → ℕ → Option ℕ
id_at ids flags i = then_some (get_or flags i false) (get_or ids i 0)

abbrev pub interaction_at : List ℕ → List Bool → Interaction
interaction_at ids flags = record { potential_click_id = id_at ids flags click; potential_drag_id = id_at ids flags drag; dragged = id_at ids flags dragged }

-- ---- written
abbrev pub ids_of : Interaction → List ℕ
ids_of n = unwrap_or n.potential_click_id 0 ∷ unwrap_or n.potential_drag_id 0 ∷ unwrap_or n.dragged 0 ∷ []

abbrev pub flags_of : Interaction → List Bool
flags_of n = is_some n.potential_click_id ∷ is_some n.potential_drag_id ∷ is_some n.dragged ∷ []
