use Prim.Native.Nat.{ℕ}
use mathlib.Core.Path.{◌≡◌, refl}
use native.Mathlib.Omega.{arith}
use Rattle.survey.specs.Survey.{option}
use Rattle.trace_machine.proofs.machine.passed.Goals as goal

pub returns-in-Err : goal.returns-in-Err
unfolding option
returns-in-Err c =
    rw (c.kept.ensures, c.in-Err.is)
    (record { refused = λ is-not. (λ none. let z : ◌≡◌ {A = ℕ} 0 1 = cc in omega arith, refl); taken = λ is. refl })

pub returns-in-Ok : goal.returns-in-Ok
returns-in-Ok c =
    rw (c.kept-in-Ok.ensures, c.after_pass-panel.ensures)
    (record { refused = λ is-not. absurd (is-not c.taken.ensures.0); taken = λ is. refl })
