use Rattle.std.specs.Prelude.{None}
use mathlib.Core.Path.{sym, ◌∙◌, ap}
use Rattle.model.specs.Interact.{is_some, long_touch_if}
use Rattle.interaction_state.specs.View.{interaction_of}
use Rattle.interaction_events.specs.View.{going_of}
use Rattle.interaction_events.proofs.Looked.{click_id_of, touches, touches_none, default_is}
use Rattle.interaction_events.proofs.long_touch_if.Goals as goal

pub returns-then-is_some : goal.returns-then-is_some
unfolding long_touch_if going_of is_some
returns-then-is_some c edges =
    let h = ap is_some (sym (c.known_id-touched.ensures edges)) ∙ (sym c.is_some.ensures ∙ c.if-is_some.true) in
    rw (c.if-not-long.false, click_id_of c.args.s, touches _ _ h, default_is c.default.result c.default.ensures, c.known_id-touched.ensures edges)

pub returns : goal.returns
unfolding long_touch_if interaction_of is_some
returns c edges =
    let h = ap is_some (sym (c.known_id-touched.ensures edges)) ∙ (sym c.is_some.ensures ∙ c.if-is_some.false) in
    rw (c.if-not-long.false, touches_none _ _ h) (c.going-2.ensures (λ d. None))
