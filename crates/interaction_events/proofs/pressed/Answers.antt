use mathlib.Core.Path.{◌≡◌, ◌∙◌}
use Rattle.model.specs.Pass.{or_else}
use Rattle.model.specs.Interact.{pointer_event}
use Rattle.interaction_state.specs.View.{interaction_of}
use Rattle.interaction_events.specs.View.{going_of}
use Rattle.interaction_events.proofs.Looked.{or_is}
use Rattle.interaction_events.proofs.pressed.Goals as goal

pub returns : goal.returns
unfolding pointer_event going_of interaction_of
returns c x hk hd dragging v b =
    let s = c.args.g.interaction in
    let k : c.or.result ≡ or_else s.potential_click_id c.hit_id.result = c.or.ensures ∙ or_is s.potential_click_id c.hit_id.result in
    let d : c.or-2.result ≡ or_else s.potential_drag_id c.hit_id-2.result = c.or-2.ensures ∙ or_is s.potential_drag_id c.hit_id-2.result in
    rw (hk, hd, d, k, c.hit_id-2.ensures, c.hit_id.ensures)
