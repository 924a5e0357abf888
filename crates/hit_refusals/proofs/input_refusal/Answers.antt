use mathlib.Core.Path.{sym, ap, ◌∙◌}
use Rattle.std.proofs.lemmas.Result.{err_from_is_err_and}
use Rattle.model.specs.Pass.{or_else}
use Rattle.model.specs.Interact.{input_refusal, buffers_refusal}
use Rattle.hit_refusals.specs.Refusals.{refusal_of, input}
use Rattle.hit_refusals.proofs.input_refusal.Goals as goal

pub returns-in_err-buffers_refusal : goal.returns-in_err-buffers_refusal
unfolding input_refusal buffers_refusal input refusal_of or_else
returns-in_err-buffers_refusal c =
    let q = err_from_is_err_and c.from_residual.result c.from_residual.ensures.1 in
    rw (q.1, q.2, sym c.buffers_refusal.ensures ∙ ap refusal_of c.in_err-buffers_refusal.was)

pub returns-in_err-hits_refusal : goal.returns-in_err-hits_refusal
unfolding input_refusal buffers_refusal input refusal_of or_else
returns-in_err-hits_refusal c =
    let q = err_from_is_err_and c.from_residual-in_err-hits_refusal.result c.from_residual-in_err-hits_refusal.ensures.1 in
    rw (q.1, q.2, sym c.buffers_refusal.ensures ∙ ap refusal_of c.in_ok-buffers_refusal.was, sym c.hits_refusal.ensures ∙ ap refusal_of c.in_err-hits_refusal.was)

pub returns-in_err-hits_refusal-2 : goal.returns-in_err-hits_refusal-2
unfolding input_refusal buffers_refusal input refusal_of or_else
returns-in_err-hits_refusal-2 c =
    let q = err_from_is_err_and c.from_residual-in_err-hits_refusal-2.result c.from_residual-in_err-hits_refusal-2.ensures.1 in
    rw (q.1, q.2, sym c.buffers_refusal.ensures ∙ ap refusal_of c.in_ok-buffers_refusal.was, sym c.hits_refusal.ensures ∙ ap refusal_of c.in_ok-hits_refusal.was, sym c.hits_refusal-2.ensures ∙ ap refusal_of c.in_err-hits_refusal-2.was)

pub returns-in_err-hit_refusal : goal.returns-in_err-hit_refusal
unfolding input_refusal buffers_refusal input refusal_of or_else
returns-in_err-hit_refusal c =
    let q = err_from_is_err_and c.from_residual-in_err-hit_refusal.result c.from_residual-in_err-hit_refusal.ensures.1 in
    rw (q.1, q.2, sym c.buffers_refusal.ensures ∙ ap refusal_of c.in_ok-buffers_refusal.was, sym c.hits_refusal.ensures ∙ ap refusal_of c.in_ok-hits_refusal.was, sym c.hits_refusal-2.ensures ∙ ap refusal_of c.in_ok-hits_refusal-2.was, sym c.hit_refusal.ensures ∙ ap refusal_of c.in_err-hit_refusal.was)

pub returns : goal.returns
unfolding input_refusal buffers_refusal input refusal_of or_else
returns c =
    rw (sym c.buffers_refusal.ensures ∙ ap refusal_of c.in_ok-buffers_refusal.was, sym c.hits_refusal.ensures ∙ ap refusal_of c.in_ok-hits_refusal.was, sym c.hits_refusal-2.ensures ∙ ap refusal_of c.in_ok-hits_refusal-2.was, sym c.hit_refusal.ensures ∙ ap refusal_of c.in_ok-hit_refusal.was)
    c.hit_refusal-2.ensures
