use borrow.Author.Rules.{of_calls}
use Rattle.image_touches.specs.Touches.{touch_code}
use Rattle.image_words.specs.Leaves.{found}
use Rattle.image.specs.Places.{bad_at, or_else}
use Rattle.image.specs.Codes.{size}
use native.Mathlib.Numerals.{add-one}
use mathlib.Core.Path.{sym, ap, ◌∙◌}
use Rattle.image_touches.proofs.touches_bad.Goals as goal

pub returns : goal.returns
unfolding bad_at size or_else found
returns c =
    let t = sym c.word_bad.ensures ∙ ap found c.in_ok-word_bad.was in
    let k = sym (c.keys_bad.ensures (bad_at touch_code) (λ i before r p. search of_calls)) ∙ ap found c.in_ok-keys_bad.was in
    rw (c.zeros_bad.ensures, t, ← c.count_at-n.ensures.1 t, ← add-one c.args.at, k)
