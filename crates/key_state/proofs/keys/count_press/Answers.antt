use mathlib.Core.Path.{ap, ◌∙◌}
use Prim.Native.Nat.{ℕ, ◌<◌}
use native.Mathlib.Omega.{arith}
use lib.ListN.{get_or, set}
use Rattle.key_state.proofs.Steps.{saturated}
use Rattle.key_state.proofs.keys.count_press.Goals as goal

pub returns : goal.returns
returns c =
    let a = c.args in
    let small : get_or a.presses.now a.place 0 < 256 = omega arith in
    ap (λ (n : ℕ). set a.presses.now a.place n) (c.saturating_add.ensures ∙ saturated _ small)
