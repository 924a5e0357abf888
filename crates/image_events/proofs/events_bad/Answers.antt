use borrow.Author.Rules.{of_calls}
use Rattle.image_events.specs.Events.{event_code}
use Rattle.image_words.specs.Leaves.{found}
use Rattle.image.specs.Places.{bad_at, or_else}
use Rattle.image.specs.Codes.{size}
use native.Mathlib.Numerals.{add-one}
use mathlib.Core.Path.{sym, ap, ◌∙◌}
use Rattle.image_events.proofs.events_bad.Goals as goal

pub returns : goal.returns
unfolding bad_at size or_else found
returns c =
    let l = c.list-events.ensures in
    let t = rw (l.0, l.1, l.2) at (sym c.bad.ensures ∙ ap found c.in_ok-bad.was) in
    let k = rw (l.0, l.1, l.2) at c.count-n.ensures in
    rw (c.rows_bad.ensures (bad_at event_code) c.args.words.now (λ i r p. search of_calls), t, k.1 t, add-one)
