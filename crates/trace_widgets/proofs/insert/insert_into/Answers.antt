use mathlib.Core.Path.{refl}
use Rattle.trace_widgets.proofs.Refused.{gives_kept}
use Rattle.trace_widgets.proofs.insert.insert_into.Goals as goal

pub returns-in-Err : goal.returns-in-Err
returns-in-Err c =
    let k = gives_kept _ _ _ _ _ _ _ _ _ _ _ _ c.decide.ensures c.in-Err.is in
    record { refused = λ is-not. (refl, k.0, k.1, k.2, refl) }

pub returns-in-Ok : goal.returns-in-Ok
returns-in-Ok c =
    record { refused = λ is-not. absurd (is-not c.answered.ensures) }
