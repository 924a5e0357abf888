use mathlib.Core.Path.{sym, ◌∙◌}
use Rattle.trace_parking.proofs.Refused.{lent_kept, takes_image}
use Rattle.trace_parking.proofs.restore.restore.Goals as goal

pub returns : goal.returns
returns c =
    let e = c.restored.ensures in
    let r = c.restore-read in
    record {
      refused = λ is-not. (e.refused is-not, lent_kept c.args.w.now _ _ r.result (λ z. is-not (e.code ∙ z)) r.ensures);
      taken = λ is. takes_image c.args.m c.args.w.now _ _ r.result _ (sym e.code ∙ is) r.ensures e;
    }
