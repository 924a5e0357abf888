use Rattle.std.proofs.lemmas.Result.{err_from_is_err_and}
use mathlib.Core.Path.{refl, sym, ◌∙◌, ap}
use Rattle.hit_refusals.specs.Refusals.{refusal_of}
use Rattle.interaction.specs.Post.{row_of}
use Rattle.interaction.proofs.Taken.{refused_by, accepted, sized}
use Rattle.interaction.proofs.interact.interact.Goals as goal

pub unless_full-requires : goal.unless_full-requires
unfolding refusal_of
unless_full-requires c = sized _ _ _ _ _ _ (sym c.input_refusal.ensures ∙ ap refusal_of c.in_ok-input_refusal.was)

pub returns-in_err-input_refusal : goal.returns-in_err-input_refusal
unfolding refusal_of
returns-in_err-input_refusal c ps edges p hs ht =
    let q = err_from_is_err_and c.from_residual.result c.from_residual.ensures.1 in
    let refused = refused_by _ _ _ _ _ _ _ _ p _ (sym c.input_refusal.ensures ∙ ap refusal_of c.in_err-input_refusal.was) in
    rw (q.1, q.2)
    (record {
      answer = refused;
      row = ap row_of refused;
      hovered_kept = refl;
      contains_kept = refl;
    })

pub returns : goal.returns
unfolding refusal_of
returns c ps edges p hs ht =
    rw (accepted _ _ _ _ _ _ _ _ p (sym c.input_refusal.ensures ∙ ap refusal_of c.in_ok-input_refusal.was)) (c.unless_full.ensures ps edges p hs ht)
