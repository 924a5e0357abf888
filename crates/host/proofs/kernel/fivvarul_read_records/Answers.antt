use Rattle.host.proofs.kernel.fivvarul_read_records.Goals as goal

pub returns : goal.returns
returns c = record { read = record { kernel = c.read_records-answer.new.k; answer = c.read_records-answer.result }; reads = c.read_records-answer.ensures; crosses = c.crossing.ensures }
