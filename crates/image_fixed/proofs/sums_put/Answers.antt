use Rattle.image_fixed.proofs.Chain.{three}
use Rattle.input_state.specs.View.{sums}
use Rattle.interaction_state.specs.View.{interaction_of}
use Rattle.image_interaction.specs.Groups.{sums_el}
use Rattle.image_fixed.proofs.Chain.{sums_length, interaction_length}
use mathlib.Core.Path.{refl}
use Rattle.image_fixed.proofs.sums_put.Goals as goal

pub returns : goal.returns
returns c =
    let a = c.args in
    let s = c.sums_words-s.ensures in
    let i = c.interaction_words-i.ensures in
    let t = c.tally_words-t.ensures in (
      three a.out.now _ _ _ c.sums_words-s.result c.interaction_words-i.result c.tally_words-t.result _ _ _ 225 231 241 6 10 c.copy.ensures c.copy-2.ensures c.copy-3.ensures
          s.0 i.0 t.0 (sums_length (sums_el (sums a.sums))) (interaction_length (interaction_of a.interaction)) refl refl,
      s.1,
      i.1,
      t.1,
    )
