use Rattle.host_questions.proofs.keys.fivvarul_key_down.Goals as goal

pub returns : goal.returns
returns c = rw c.keys-keys.ensures at c.key_down.ensures
