use Rattle.std.proofs.Common.{length}
use Rattle.std.proofs.lemmas.Result.{err_from_is_err_and}
use mathlib.Core.Path.{refl, sym, ◌∙◌, ap}
use Rattle.widget_rect.proofs.Agree.{inserts}
use Rattle.widget_rect.proofs.Fits.{end_of, decide_fits}
use Rattle.widget_rect.proofs.insert.insert.Goals as goal

pub returns-in_err-i : goal.returns-in_err-i
returns-in_err-i c =
    let q = err_from_is_err_and c.from_residual.result c.from_residual.ensures.1 in
    rw (q.1, q.2)
    (inserts c.args.h c.args.words.now c.args.numbers.now c.args.edges.now c.args.s.now c.args.w c.args.move_to_top
    _ _ _ _ _ (rw (sym c.in_err-i.was) c.decide.ensures) refl)

pub settle-requires : goal.settle-requires
unfolding end_of
settle-requires c =
    rw (ap end_of (sym c.in_ok-i.was ∙ c.decide.ensures.decision))
    (decide_fits c.args.h c.args.words.now c.args.numbers.now c.args.edges.now (length c.args.s.now) c.args.w c.args.move_to_top)

pub returns : goal.returns
returns c =
    inserts c.args.h c.args.words.now c.args.numbers.now c.args.edges.now c.args.s.now c.args.w c.args.move_to_top
    _ _ _ _ _ (rw (sym c.in_ok-i.was) c.decide.ensures) c.settle.ensures
