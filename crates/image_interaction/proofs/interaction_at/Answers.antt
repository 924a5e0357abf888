use Prim.Native.Nat.{ℕ}
use mathlib.Core.Path.{◌∙◌}
use Rattle.image.specs.Places.{value_at, span}
use Rattle.image.specs.Codes.{id, size}
use Rattle.image_words.specs.Leaves.{any_id}
use Rattle.image_options.proofs.Arrays.{as_it_is}
use Rattle.interaction_state.specs.View.{interaction_of}
use Rattle.image_interaction.proofs.interaction_at.Goals as goal

pub returns : goal.returns
unfolding value_at span size interaction_of
returns c =
    let a = c.maybe_at-potential_click_id.ensures (id any_id) (λ (d : ℕ). d) c.two_at.ensures ∙ as_it_is _ in
    let b = c.maybe_at-potential_drag_id.ensures (id any_id) (λ (d : ℕ). d) c.two_at-2.ensures ∙ as_it_is _ in
    let d = c.maybe_at-dragged.ensures (id any_id) (λ (d : ℕ). d) c.two_at-3.ensures ∙ as_it_is _ in
    rw (d, b, a)
