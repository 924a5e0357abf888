-- What an interact answers the host.
use Rattle.std.specs.Prelude.{ℕ, false}
use Rattle.data.specs.Numbers.{interact_refusal_number}
use Rattle.model.specs.Types.{InteractRefusal}
use Rattle.model.specs.Types.interaction as interaction
use Rattle.interaction_state.specs.declared.state.InteractionSnapshot.{InteractionSnapshot}
use Rattle.host_answers.specs.declared.HostId.{HostId}
use Rattle.host_answers.specs.Answers.{id_of}
use Rattle.host_interact.specs.declared.HostSnapshot.{HostSnapshot}

-- the index that 01 returns with a refusal; 0 where it returns none
abbrev pub index_of : InteractRefusal → ℕ
index_of (interaction.Malformed i) = i
index_of (interaction.TooManyHits i) = i
index_of interaction.ShortBuffer = 0
index_of interaction.ZeroId = 0
index_of interaction.TallyFull = 0

abbrev no_id : HostId
no_id = record { id = 0; given = false }

-- refused: 01's number and index
abbrev pub refusal_of : InteractRefusal → HostSnapshot
refusal_of q =
    record {
      number = interact_refusal_number q;
      index = index_of q;
      clicked = no_id;
      long_touched = no_id;
      drag_started = no_id;
      dragged = no_id;
      drag_stopped = no_id;
      hovered = 0;
      contains_pointer = 0;
    }

-- taken: the snapshot
abbrev pub snapshot_of : HostSnapshot → InteractionSnapshot
snapshot_of r =
    record {
      clicked = id_of r.clicked;
      long_touched = id_of r.long_touched;
      drag_started = id_of r.drag_started;
      dragged = id_of r.dragged;
      drag_stopped = id_of r.drag_stopped;
      hovered = r.hovered;
      contains_pointer = r.contains_pointer;
    }
