use Rattle.survey.specs.Survey.{option}
use Rattle.model.specs.Pass.{own_refusal, time_of}
use Rattle.input_state.proofs.input.own_refusal.Goals as goal

pub returns-then-time-old : goal.returns-then-time-old
unfolding own_refusal time_of option
returns-then-time-old c ws = rw (← c.time_of-time.ensures, ← c.own_numbers_ok.ensures ws, c.if-own_numbers_ok.true, c.if-time-old.true)

pub returns-then-own_numbers_ok : goal.returns-then-own_numbers_ok
unfolding own_refusal time_of option
returns-then-own_numbers_ok c ws = rw (← c.time_of-time.ensures, ← c.own_numbers_ok.ensures ws, c.if-own_numbers_ok.true, c.if-time-old.false)

pub returns : goal.returns
unfolding own_refusal time_of option
returns c ws = rw (← c.time_of-time.ensures, ← c.own_numbers_ok.ensures ws, c.if-own_numbers_ok.false)
