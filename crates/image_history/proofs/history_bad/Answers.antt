use borrow.Author.Rules.{of_calls}
use Rattle.image_history.specs.History.{sample_code}
use Rattle.image_words.specs.Leaves.{found}
use Rattle.image.specs.Places.{bad_at, or_else}
use Rattle.image.specs.Codes.{size}
use native.Mathlib.Numerals.{add-one}
use mathlib.Core.Path.{sym, ap, ◌∙◌}
use Rattle.image_history.proofs.history_bad.Goals as goal

pub returns : goal.returns
unfolding bad_at size or_else found
returns c = let t = sym c.bad.ensures ∙ ap found c.in_ok-bad.was in rw (c.rows_bad.ensures (bad_at sample_code) c.args.words.now (λ i r p. search of_calls), t, c.count-n.ensures.1 t, add-one)
