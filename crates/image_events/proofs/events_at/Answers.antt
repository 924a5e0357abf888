use Prim.Native.Nat.{ℕ}
use mathlib.Core.Path.{ap₂}
use native.Mathlib.Numerals.{add-one}
use Rattle.image.specs.Codes.{size}
use Rattle.image.specs.Places.{bad_at, value_at, rows_at}
use Rattle.image.proofs.Lists.{or_else_none}
use Rattle.image_events.specs.Events.{event_code}
use Rattle.image_events.proofs.Rows.{moved_stored}
use Rattle.image_events.proofs.events_at.Goals as goal

pub returns : goal.returns
unfolding bad_at value_at size
returns c =
    let l = c.list.ensures in
    let k = rw (l.0, l.1, l.2) at c.count-n.ensures in
    let n = k.1 (or_else_none _ _ c.requires.2).0 in
    moved_stored (ap₂ (λ (n i : ℕ). rows_at 6 (value_at event_code) n c.args.words.now i) n (add-one c.args.at)) c.rows_at.ensures
