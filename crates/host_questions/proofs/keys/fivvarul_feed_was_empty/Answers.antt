use Rattle.host_questions.proofs.keys.fivvarul_feed_was_empty.Goals as goal

pub returns : goal.returns
returns c = rw c.keys-keys.ensures at c.feed_was_empty.ensures
