use Rattle.host_widgets.proofs.decided.Goals as goal

pub returns : goal.returns
returns c = record { decision = c.decide.result; gives = c.decide.ensures; crosses = c.crossed.ensures }
