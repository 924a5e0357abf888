use borrow.Author.Rules.{rules}
use mathlib.Core.Path.{◌≡◌, sym, ap, ◌∙◌}
use Rattle.trace_machine.proofs.Steps.{same_code, when_refused, when_taken}
use Rattle.trace_machine.specs.Machine.{with_panel}
use Rattle.trace_parking.specs.Calls.{code_of}
use Rattle.trace_parking.proofs.restore.restored.Goals as goal

pub returns : goal.returns
returns c =
    let e = c.stepped.ensures in
    record {
      code = same_code _ _ _ _ e ∙ c.restore_answer.ensures;
      refused = when_refused _ _ _ _ e;
      taken = λ p is. let q : c.unwrap_or-panel.result ≡ p = search rules in when_taken _ _ _ _ e (same_code _ _ _ _ e ∙ c.restore_answer.ensures ∙ ap code_of is) ∙ ap (with_panel c.args.m) q;
    }
