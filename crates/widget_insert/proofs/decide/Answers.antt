use Rattle.std.proofs.lemmas.Result.{err_from_is_err_and}
use Rattle.widget_append.proofs.Cases.{gives, as_before}
use Rattle.widget_insert.proofs.Cases.{refuses, checks}
use mathlib.Core.Path.{sym, ◌∙◌, ap}
use Rattle.widget_insert.specs.Numbers.{refusal_of}
use Rattle.widget_insert.proofs.decide.Goals as goal

pub returns-in_err-record_refusal : goal.returns-in_err-record_refusal
unfolding refusal_of
returns-in_err-record_refusal c =
    let q = err_from_is_err_and c.from_residual.result c.from_residual.ensures.1 in
    gives (refuses _ _ _ _ _ _ _ _ (sym c.record_refusal.ensures ∙ ap refusal_of c.in_err-record_refusal.was)) (rw (q.1, q.2) (as_before _ _ _ _))

pub returns : goal.returns
unfolding refusal_of
returns c = gives (checks _ _ _ _ _ _ _ (sym c.record_refusal.ensures ∙ ap refusal_of c.in_ok-record_refusal.was)) c.insert_checked.ensures
