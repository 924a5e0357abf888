use Rattle.key_state.proofs.keys.key_pressed.Goals as goal

pub returns : goal.returns
returns c k = rw (← c.num_presses.ensures k)
