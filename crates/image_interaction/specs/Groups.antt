-- Groups 7 to 9, sums, interaction, tally: the code of each, the value that stands for the model's record, and back.
use Rattle.std.specs.Prelude.{ℕ}
use Rattle.model.specs.Pass.{Sums, Interaction}
use Rattle.image.specs.Codes.{Code, word, single, both, group, El}
use Rattle.image_words.specs.Leaves.{any, upto}
use Rattle.image_options.specs.Options.{pair, maybe_id, vec_el, vec_of}

-- the places of the leading words
abbrev pub sums_place : ℕ
sums_place = 225

abbrev pub interaction_place : ℕ
interaction_place = 231

abbrev pub tally_place : ℕ
tally_place = 241

-- ---- zoom_factor, zoom_exponent, rotation_radians, smooth_scroll_delta: "Sums made inside may overflow as IEEE says"
abbrev pub sums_code : Code
sums_code = group 7 (both (single any) (both (single any) (both (single any) pair)))

abbrev pub sums_el : Sums → El sums_code
sums_el s = (s.zoom_factor, (s.zoom_exponent, (s.rotation_radians, vec_el s.smooth_scroll_delta)))

abbrev pub sums_of : El sums_code → Sums
sums_of v = record { zoom_factor = v.0; zoom_exponent = v.1.0; rotation_radians = v.1.1.0; smooth_scroll_delta = vec_of v.1.1.1 }

-- ---- "dragged and potential ids"
abbrev pub interaction_code : Code
interaction_code = group 8 (both maybe_id (both maybe_id maybe_id))

abbrev pub interaction_el : Interaction → El interaction_code
interaction_el s = (s.potential_click_id, (s.potential_drag_id, s.dragged))

abbrev pub interaction_of : El interaction_code → Interaction
interaction_of v = record { potential_click_id = v.0; potential_drag_id = v.1.0; dragged = v.1.1 }

-- ---- "with tally": any word
abbrev pub max_word : ℕ
max_word = 0xFFFF_FFFF

abbrev pub tally_code : Code
tally_code = group 9 (word (upto max_word))
