use mathlib.Core.Path.{sym, ◌∙◌}
use Rattle.pointer_events.proofs.Stored.{events_length}
use Rattle.pointer_questions.proofs.buttons.pointer_event_count.Goals as goal

pub returns : goal.returns
returns c cs ps = c.counted.ensures ∙ sym (events_length cs ps _)
