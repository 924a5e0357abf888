use borrow.Author.Tests.{eq-eqb, ne_eqb}
use Rattle.trace_machine.specs.Machine.{stepped}
use Rattle.trace_machine.proofs.machine.stepped.Goals as goal

pub returns-then-reply-eq0 : goal.returns-then-reply-eq0
unfolding stepped
returns-then-reply-eq0 c = rw (eq-eqb _ _ c.if-reply-eq0.true)

pub returns : goal.returns
unfolding stepped
returns c = rw (ne_eqb _ _ c.if-reply-eq0.false)
