use Rattle.image_options.proofs.Arrays.{id_written}
use Rattle.image_interaction.proofs.Trip.{interaction_list}
use Rattle.interaction_state.specs.View.{interaction_of}
use Rattle.image_interaction.proofs.interaction_words.Goals as goal

pub returns : goal.returns
unfolding interaction_of
returns c =
    let s = c.args.s in
    let a = id_written s.potential_click_id _ c.maybe_words-a.ensures in
    let b = id_written s.potential_drag_id _ c.maybe_words-b.ensures in
    let d = id_written s.dragged _ c.maybe_words-d.ensures in
    (interaction_list (interaction_of s) _ _ _ a.0 b.0 d.0, (a.1, (b.1, d.1)))
