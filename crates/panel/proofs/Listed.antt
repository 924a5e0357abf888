-- The list of pointer events that the model replies. Assumes nothing.
use mathlib.Core.Path.{◌≡◌}
use mathlib.Core.List.{List}
use Rattle.model.specs.Types.{PointerEvent}
use Rattle.model.specs.Pass.{Panel}
use Rattle.model.specs.Questions.{settled, pointer_events, events, ask, reply, shown}

pub listed : (p : Panel) (l : List PointerEvent) → ask (settled pointer_events) p ≡ events l → p.press.held.pointer_events ≡ l
unfolding ask reply shown
listed p l h = cc
