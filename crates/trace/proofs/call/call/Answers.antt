use mathlib.Core.Path.{◌≡◌, refl, ◌∙◌}
use native.Mathlib.Omega.{arith}
use Rattle.std.specs.Prelude.{Ok, Err}
use Rattle.trace_words.specs.declared.calls.Call.TheVariants.{Reset, Pass, Park, RestoreLast, Restore}
use Rattle.trace_words.specs.Calls.{call_of}
use Rattle.trace_machine.proofs.Steps.{same_code, when_refused}
use Rattle.trace.proofs.Calls.{same_presses, same_lent, same_image, same_rest, not_this, same_call, no_call, is_reset, is_pass, is_park, is_restore_last, is_restore}
use borrow.Author.Rules.{rules}
use Rattle.trace.proofs.call.call.Goals as goal

pub returns-in-Reset : goal.returns-in-Reset
returns-in-Reset c =
    let e = c.reset.ensures in
    let this : call_of c.args.kind ≡ Ok Reset = search rules in
    record {
      refused = λ is-not. let k = e.refused (λ none. is-not (e.taken none).0) in (k.1, same_presses k.2);
      reset = λ kind. e;
      pass = λ kind. absurd (not_this _ 1 Reset Pass this is_pass (omega arith) kind);
      park = λ kind. absurd (not_this _ 12 Reset Park this is_park (omega arith) kind);
      restore_last = λ kind. absurd (not_this _ 13 Reset RestoreLast this is_restore_last (omega arith) kind);
      restore = λ kind. absurd (not_this _ 14 Reset Restore this is_restore (omega arith) kind);
    }

pub returns-in-Pass : goal.returns-in-Pass
returns-in-Pass c =
    let e = c.pass.ensures in
    let this : call_of c.args.kind ≡ Ok Pass = search rules in
    record {
      refused = λ is-not. let k = e.refused is-not in (k.0, same_lent k.1);
      reset = λ kind. absurd (not_this _ 0 Pass Reset this is_reset (omega arith) kind);
      pass = λ kind. e;
      park = λ kind. absurd (not_this _ 12 Pass Park this is_park (omega arith) kind);
      restore_last = λ kind. absurd (not_this _ 13 Pass RestoreLast this is_restore_last (omega arith) kind);
      restore = λ kind. absurd (not_this _ 14 Pass Restore this is_restore (omega arith) kind);
    }

pub returns-in-Park : goal.returns-in-Park
returns-in-Park c =
    let e = c.park.ensures in
    let this : call_of c.args.kind ≡ Ok Park = search rules in
    record {
      refused = λ is-not. let k = e.refused is-not in (k.0, same_image k.1);
      reset = λ kind. absurd (not_this _ 0 Park Reset this is_reset (omega arith) kind);
      pass = λ kind. absurd (not_this _ 1 Park Pass this is_pass (omega arith) kind);
      park = λ kind. e;
      restore_last = λ kind. absurd (not_this _ 13 Park RestoreLast this is_restore_last (omega arith) kind);
      restore = λ kind. absurd (not_this _ 14 Park Restore this is_restore (omega arith) kind);
    }

pub returns-in-RestoreLast : goal.returns-in-RestoreLast
returns-in-RestoreLast c =
    let e = c.restore_last.ensures in
    let this : call_of c.args.kind ≡ Ok RestoreLast = search rules in
    record {
      refused = λ is-not. let k = e.refused is-not in (k.0, same_lent k.1);
      reset = λ kind. absurd (not_this _ 0 RestoreLast Reset this is_reset (omega arith) kind);
      pass = λ kind. absurd (not_this _ 1 RestoreLast Pass this is_pass (omega arith) kind);
      park = λ kind. absurd (not_this _ 12 RestoreLast Park this is_park (omega arith) kind);
      restore_last = λ kind. e;
      restore = λ kind. absurd (not_this _ 14 RestoreLast Restore this is_restore (omega arith) kind);
    }

pub returns-in-Restore : goal.returns-in-Restore
returns-in-Restore c =
    let e = c.restore.ensures in
    let this : call_of c.args.kind ≡ Ok Restore = search rules in
    record {
      refused = λ is-not. let k = e.refused is-not in (k.0, same_lent k.1);
      reset = λ kind. absurd (not_this _ 0 Restore Reset this is_reset (omega arith) kind);
      pass = λ kind. absurd (not_this _ 1 Restore Pass this is_pass (omega arith) kind);
      park = λ kind. absurd (not_this _ 12 Restore Park this is_park (omega arith) kind);
      restore_last = λ kind. absurd (not_this _ 13 Restore RestoreLast this is_restore_last (omega arith) kind);
      restore = λ kind. e;
    }

pub returns-in_default : goal.returns-in_default
returns-in_default c =
    let e = c.stepped.ensures in
    let other = c.in_default in
    let this : call_of c.args.kind ≡ Ok c.in-Ok.call = search rules in
    record {
      refused = λ is-not. (when_refused _ _ _ _ e is-not, same_rest (c.change-c.ensures.refused (λ z. is-not (same_code _ _ _ _ e ∙ z))));
      reset = λ kind. absurd (other.not-Reset (same_call _ 0 _ Reset this is_reset kind));
      pass = λ kind. absurd (other.not-Pass (same_call _ 1 _ Pass this is_pass kind));
      park = λ kind. absurd (other.not-Park (same_call _ 12 _ Park this is_park kind));
      restore_last = λ kind. absurd (other.not-RestoreLast (same_call _ 13 _ RestoreLast this is_restore_last kind));
      restore = λ kind. absurd (other.not-Restore (same_call _ 14 _ Restore this is_restore kind));
    }

pub returns-in-Err : goal.returns-in-Err
returns-in-Err c =
    let none : call_of c.args.kind ≡ Err c.in-Err.field-0 = search rules in
    record {
      refused = λ is-not. (c.refused.ensures.1, refl);
      reset = λ kind. absurd (no_call _ 0 _ Reset none is_reset kind);
      pass = λ kind. absurd (no_call _ 1 _ Pass none is_pass kind);
      park = λ kind. absurd (no_call _ 12 _ Park none is_park kind);
      restore_last = λ kind. absurd (no_call _ 13 _ RestoreLast none is_restore_last kind);
      restore = λ kind. absurd (no_call _ 14 _ Restore none is_restore kind);
    }
