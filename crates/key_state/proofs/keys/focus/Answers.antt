use Rattle.key_state.proofs.Steps.{unfocused}
use Rattle.model.specs.Pass.{key_event}
use Rattle.key_state.proofs.keys.focus.Goals as goal

pub returns-then-focused : goal.returns-then-focused
unfolding key_event
returns-then-focused c presses = rw c.if-focused.true

pub returns : goal.returns
returns c presses = unfocused presses _ _ _ _ c.if-focused.false c.none-down.ensures c.none-modifiers.ensures
