use mathlib.Core.Path.{◌≡◌, ◌∙◌}
use Prim.Native.Nat.{◌-◌}
use native.Mathlib.Omega.{arith}
use lib.ListN.{length, take, drop, length-drop}
use lib.Seq.{take_all}
use Rattle.trace_machine.proofs.Steps.{carried}
use Rattle.trace_machine.proofs.passes.pass.Goals as goal

pub returns : goal.returns
returns c =
    let e = c.passed.ensures in
    let given = c.pass_input-given.ensures in
    let w = c.args.w.now in
    let whole : take (length w - 18) (drop 18 w) ≡ drop 18 w = take_all (length w - 18) (drop 18 w) (omega (arith, length-drop 18 w)) in
    record {
      refused = λ is-not. ((e.refused is-not).1, (c.pass-begun.ensures.refused (λ none. (e.refused is-not).0 (c.pass-begun.ensures.refusal ∙ none))).2);
      taken = λ is. record { begun = c.pass-begun.result; is_begun = carried given whole c.pass-begun.ensures; machine_is = e.taken is };
    }
