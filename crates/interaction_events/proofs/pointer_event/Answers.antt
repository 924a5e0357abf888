use mathlib.Core.Path.{◌∙◌}
use Rattle.model.specs.Interact.{pointer_event}
use Rattle.interaction_events.proofs.Walk.{of_moved, of_pressed, of_released, clicks, releases}
use Rattle.interaction_events.proofs.pointer_event.Goals as goal

pub returns-in-Moved : goal.returns-in-Moved
unfolding pointer_event
returns-in-Moved c x l e k = rw (of_moved e (k ∙ c.in-Moved.is)).1

pub returns-in-Pressed : goal.returns-in-Pressed
returns-in-Pressed c x l e k = rw (of_pressed e _ (k ∙ c.in-Pressed.is)).1 (c.pressed.ensures x l.click_hit l.drag_hit _ _ _)

pub returns-then-is_some-dragging : goal.returns-then-is_some-dragging
returns-then-is_some-dragging c x l e k =
    let r = of_released e _ _ (k ∙ c.in-Released.is) in
    rw r.1.0 (clicks x _ _ _ _ r.0 (rw (r.1.1, ← c.is_some.ensures) c.if-is_some-dragging.true) (λ j. c.clicked.ensures x l.edges l.widgets j _))

pub returns-else-is_some-dragging : goal.returns-else-is_some-dragging
returns-else-is_some-dragging c x l e k =
    let r = of_released e _ _ (k ∙ c.in-Released.is) in
    rw r.1.0 (releases x _ _ _ _ r.0 (rw (r.1.1, ← c.is_some.ensures) c.if-is_some-dragging.false) (c.released.ensures x _ _))
