use mathlib.Core.Path.{refl, ap}
use Rattle.interaction_state.specs.View.{interaction_of}
use Rattle.host_pass.proofs.Passing.{written}
use Rattle.host_interact.proofs.Back.{written as interaction_written}
use Rattle.host.proofs.Starting.{starts, no_button_down}
use Rattle.host.proofs.fresh.fivvarul_fresh.Goals as goal

pub returns : goal.returns
returns c =
    starts _ _ c.fresh-p.ensures _ _ _ _ _ _ _
    (written _ 0 _ _ _ _ _ (no_button_down _ _ c.fresh-p.ensures) c.seconds.ensures c.floats.ensures c.counts.ensures c.flags.ensures c.keys_down.ensures)
    c.counts.ensures (ap interaction_of (interaction_written _ _ _ c.ids.ensures c.flags-2.ensures)) refl
