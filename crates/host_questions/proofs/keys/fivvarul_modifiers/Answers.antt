use native.Mathlib.Omega.{arith}
use Rattle.feed.proofs.RoundTrip.{modifiers_back}
use Rattle.host_questions.proofs.keys.fivvarul_modifiers.Goals as goal

pub returns : goal.returns
returns c = rw (modifiers_back c.modifiers.result c.number.result 0 (omega (arith, c.number.ensures.0))) (rw c.keys-keys.ensures at c.modifiers.ensures)
