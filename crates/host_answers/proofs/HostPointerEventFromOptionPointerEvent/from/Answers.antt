use Rattle.std.specs.Prelude.{Some}
use mathlib.Core.Path.{ap, ◌∙◌}
use Rattle.pointer_events.specs.Events.{event_of}
use Rattle.pointer_events.proofs.Stored.{event_back}
use Rattle.host_answers.proofs.HostPointerEventFromOptionPointerEvent.from.Goals as goal

pub returns-in-Some : goal.returns-in-Some
returns-in-Some c = rw c.in-Some.is (ap (λ x. Some (event_of x)) c.entry_of-entry.ensures ∙ ap Some (event_back _))
