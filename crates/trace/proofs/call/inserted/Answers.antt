use mathlib.Core.Path.{◌∙◌, ap}
use Rattle.trace_machine.specs.declared.machine.Step.{Step}
use borrow.Author.Rules.{rules}
use Rattle.trace.proofs.call.inserted.Goals as goal

pub returns : goal.returns
returns c =
    let i = c.insert-placed.ensures in
    record { refused = λ is-not. let k = i.refused (λ z. is-not (ap (λ (s : Step). s.reply.code) c.kept.ensures ∙ z)) in (k.1, k.2, k.3, k.4) }
