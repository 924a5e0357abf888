use mathlib.Core.Path.{◌≡◌, sym, ◌∙◌}
use mathlib.Core.Bool.{◌||◌, true, false}
use Rattle.model.specs.Interact.{is_some, hovered_of}
use Rattle.hit_refusals.specs.Refusals.{input}
use Rattle.id_lists.proofs.Walks.{some_of}
use Rattle.id_lists.proofs.hovered.Goals as goal

pub returns-then-is_some : goal.returns-then-is_some
unfolding hovered_of input
returns-then-is_some c =
    let a = c.args in
    let e : (is_some a.clicked || is_some a.dragged || is_some a.touched) ≡ true =
    sym (some_of a.clicked a.dragged a.touched) ∙ (rw (c.is_some.ensures, c.or-2.ensures, c.or.ensures) at c.if-is_some.true) in
    rw e c.insert_busy.ensures

pub returns : goal.returns
unfolding hovered_of input
returns c =
    let a = c.args in
    let e : (is_some a.clicked || is_some a.dragged || is_some a.touched) ≡ false =
    sym (some_of a.clicked a.dragged a.touched) ∙ (rw (c.is_some.ensures, c.or-2.ensures, c.or.ensures) at c.if-is_some.false) in
    rw e c.insert_hovered.ensures
