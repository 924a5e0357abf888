use Rattle.key_state.proofs.Steps.{fresh_is}
use Rattle.key_state.proofs.keys.fresh.Goals as goal

pub returns : goal.returns
returns c presses zeros = fresh_is presses _ _ zeros c.none-down.ensures c.none-modifiers.ensures
