-- Groups 7 and 8: the words put together are those of the record; what stands for it gives it back, and every value stands for one. Assumes nothing.
use Prim.Native.Nat.{ℕ}
use mathlib.Core.Path.{◌≡◌, refl, ap, ◌∙◌}
use mathlib.Core.List.{List, [], ◌∷◌, ◌++◌, append-nil}
use lib.ListN.{get_or}
use Rattle.model.specs.Pass.{Sums, Interaction}
use Rattle.image.specs.Codes.{El, write, size}
use Rattle.image_options.specs.Options.{maybe_id}
use Rattle.image_options.proofs.Arrays.{spread_3, id_length}
use Rattle.image_interaction.specs.Groups.{sums_code, sums_el, sums_of, interaction_code, interaction_el, interaction_of}

pub interaction_list : (s : Interaction) (a b d : List ℕ)
    → a ≡ write maybe_id s.potential_click_id → b ≡ write maybe_id s.potential_drag_id → d ≡ write maybe_id s.dragged
    → 0x8000_0009 ∷ get_or a 0 0 ∷ get_or a 1 0 ∷ get_or a 2 0 ∷ get_or b 0 0 ∷ get_or b 1 0 ∷ get_or b 2 0 ∷ get_or d 0 0 ∷ get_or d 1 0 ∷ get_or d 2 0 ∷ []
    ≡ write interaction_code (interaction_el s)
unfolding write size
interaction_list s a b d ea eb ed =
    let click = write maybe_id s.potential_click_id in
    let drag = write maybe_id s.potential_drag_id in
    let dragged = write maybe_id s.dragged in
    rw (ea, eb, ed)
    (ap (λ (z : List ℕ). 0x8000_0009 ∷ z)
    (spread_3 click _ (id_length s.potential_click_id)
    ∙ ap (λ (z : List ℕ). click ++ z)
    (spread_3 drag _ (id_length s.potential_drag_id)
    ∙ ap (λ (z : List ℕ). drag ++ z) (spread_3 dragged [] (id_length s.dragged) ∙ append-nil dragged))))

pub sums_back : (s : Sums) → sums_of (sums_el s) ≡ s
sums_back s = refl

pub sums_forth : (v : El sums_code) → sums_el (sums_of v) ≡ v
sums_forth v = refl

pub interaction_back : (s : Interaction) → interaction_of (interaction_el s) ≡ s
interaction_back s = refl

pub interaction_forth : (v : El interaction_code) → interaction_el (interaction_of v) ≡ v
interaction_forth v = refl
