use mathlib.Core.Path.{refl, sym, ap, ◌∙◌}
use Rattle.id_set.proofs.Written.{beyond}
use Rattle.interaction.specs.Post.{row_of}
use Rattle.interaction.proofs.Taken.{refuses, taken, looks, within_is}
use Rattle.interaction.proofs.interact.unless_full.Goals as goal

pub returns-then-full : goal.returns-then-full
returns-then-full c ps edges p hs ht =
    let a = c.args in
    let l = looks a.table.set a.table.words.now a.table.numbers.now edges a.hits.close.now a.hits.contains_pointer.now a.hits.click a.hits.drag _ _ in
    let refused = refuses _ _ p _ _ _ _ hs ht (c.outcome-o.ensures ps _ l (within_is _ _ _ _ _ _ _)) (sym c.full.ensures ∙ c.if-full.true) in
    record {
      answer = refused;
      row = ap row_of refused;
      hovered_kept = refl;
      contains_kept = refl;
    }

pub returns : goal.returns
returns c ps edges p hs ht =
    let a = c.args in
    let l = looks a.table.set a.table.words.now a.table.numbers.now edges a.hits.close.now a.hits.contains_pointer.now a.hits.click a.hits.drag _ _ in
    let answered =
    taken _ _ p _ _ _ _ _ _ _ _ _ _ hs ht (c.outcome-o.ensures ps _ l (within_is _ _ _ _ _ _ _)) (sym c.full.ensures ∙ c.if-full.false) _
    c.tally_after-n.ensures _ _ _ _ _ c.answered.ensures in
    record {
      answer = answered;
      row = ap row_of answered;
      hovered_kept = beyond _ _ _ _ c.answered.ensures.hovered_written;
      contains_kept = beyond _ _ _ _ c.answered.ensures.contains_written;
    }
