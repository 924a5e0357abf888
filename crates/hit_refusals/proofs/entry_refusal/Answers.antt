use Rattle.model.specs.Interact.{entry_refusal}
use Rattle.hit_refusals.specs.Refusals.{refusal_of}
use borrow.Author.Tests.{ne_eqb}
use Rattle.hit_refusals.proofs.entry_refusal.Goals as goal

pub returns-then-not-sense_ok : goal.returns-then-not-sense_ok
unfolding entry_refusal refusal_of
returns-then-not-sense_ok c = rw (← c.sense_ok.ensures, c.if-not-sense_ok.true)

pub returns-then-id-eq0 : goal.returns-then-id-eq0
unfolding entry_refusal refusal_of
returns-then-id-eq0 c = rw (← c.sense_ok.ensures, c.if-not-sense_ok.false, c.if-id-eq0.true)

pub returns : goal.returns
unfolding entry_refusal refusal_of
returns c = rw (← c.sense_ok.ensures, c.if-not-sense_ok.false, ne_eqb _ _ c.if-id-eq0.false)
