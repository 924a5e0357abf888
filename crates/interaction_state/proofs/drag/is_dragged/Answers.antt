use mathlib.Core.Path.{sym, ◌∙◌}
use borrow.Author.Tests.{not-true, not-false}
use Rattle.model.specs.Interact.{is_dragged}
use Rattle.interaction_state.proofs.Dragged.{no_drag}
use Rattle.interaction_state.proofs.Looked.{found_is}
use Rattle.interaction_state.proofs.drag.is_dragged.Goals as goal

pub returns-then-not-f : goal.returns-then-not-f
unfolding is_dragged
returns-then-not-f c x hc hk w e q = rw ((found_is w _ q).0, not-true c.args.f.enabled c.if-not-f.true)

pub returns-then-not-senses_drag : goal.returns-then-not-senses_drag
unfolding is_dragged
returns-then-not-senses_drag c x hc hk w e q =
    let s = sym c.senses_drag.ensures ∙ c.if-not-senses_drag.true in
    rw ((found_is w _ q).0, not-false c.args.f.enabled c.if-not-f.false, (found_is w _ q).1, s, no_drag)

pub returns-then-not-senses_click : goal.returns-then-not-senses_click
unfolding is_dragged
returns-then-not-senses_click c x hc hk w e q =
    let s = sym c.senses_drag.ensures ∙ c.if-not-senses_drag.false in
    let k = sym c.senses_click.ensures ∙ c.if-not-senses_click.true in
    rw ((found_is w _ q).0, not-false c.args.f.enabled c.if-not-f.false, (found_is w _ q).1, s, k)

pub returns-then-dragging : goal.returns-then-dragging
unfolding is_dragged
returns-then-dragging c x hc hk w e q =
    let s = sym c.senses_drag.ensures ∙ c.if-not-senses_drag.false in
    let k = sym c.senses_click.ensures ∙ c.if-not-senses_click.false in
    rw ((found_is w _ q).0, not-false c.args.f.enabled c.if-not-f.false, (found_is w _ q).1, s, k, c.if-dragging.true)

pub returns : goal.returns
unfolding is_dragged
returns c x hc hk w e q =
    let s = sym c.senses_drag.ensures ∙ c.if-not-senses_drag.false in
    let k = sym c.senses_click.ensures ∙ c.if-not-senses_click.false in
    rw ((found_is w _ q).0, not-false c.args.f.enabled c.if-not-f.false, (found_is w _ q).1, s, k, c.if-dragging.false, e, ← c.could_still_be_clicked.ensures x hc hk)
