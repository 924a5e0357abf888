use borrow.Author.Rules.{rules}
use Rattle.std.specs.Prelude.{Some}
use native.Mathlib.Numerals.{add-one}
use mathlib.Core.Path.{◌≡◌, sym, ap, ◌∙◌}
use Rattle.image_words.specs.Leaves.{found}
use Rattle.image.specs.Places.{bad_at, or_else}
use Rattle.image_events.proofs.Rows.{kind_bad}
use Rattle.image_events.proofs.event_bad.Goals as goal

pub returns-in_err-word_bad : goal.returns-in_err-word_bad
unfolding bad_at or_else found
returns-in_err-word_bad c =
    let e : found c.from_residual.result ≡ Some c.in_err-word_bad.field-0.0 = search rules in
    rw (e, ← kind_bad, ← c.in_err-word_bad.ensures)

pub returns : goal.returns
unfolding bad_at or_else found
returns c =
    let t = sym c.word_bad.ensures ∙ ap found c.in_ok-word_bad.was in
    rw (← kind_bad, t, c.fields_bad.ensures, c.word_at.ensures, add-one)
