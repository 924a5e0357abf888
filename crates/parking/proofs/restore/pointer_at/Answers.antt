use mathlib.Core.Path.{ap, ◌∙◌}
use native.Mathlib.Omega.{arith}
use Rattle.data.specs.Limits.{max_events}
use Rattle.image.specs.Places.{bad_at}
use Rattle.image_events.specs.Events.{events_code}
use Rattle.parking.proofs.Whole.{all_sound, pointer_held}
use borrow.Author.Rules.{rules}
use Rattle.parking.proofs.restore.pointer_at.Goals as goal

pub history_at-history-requires : goal.history_at-history-requires
history_at-history-requires c = (search rules, (all_sound c.args.words.now c.requires).history)

pub events_at-count-requires : goal.events_at-count-requires
events_at-count-requires c =
    let h = all_sound c.args.words.now c.requires in
    let k = c.events_place.ensures in
    (omega (arith, k.0), search rules, ap (bad_at (events_code max_events) c.args.words.now) (k.1 h.history) ∙ h.events)

pub returns : goal.returns
returns c =
    let ws = c.args.words.now in
    let f = c.history_at-history.ensures in
    let k = c.events_place.ensures.1 (all_sound ws c.requires).history in
    pointer_held ws _ _ _ c.history_at-history.result c.events_at-count.result c.events_place.result f.0 f.1 k c.events_at-count.ensures (c.place_at-place.ensures _ _) (c.press_at-press.ensures _ _) c.started_at.ensures c.last_move_time_at-last_move_time.ensures
