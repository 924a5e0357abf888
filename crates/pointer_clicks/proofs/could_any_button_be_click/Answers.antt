use mathlib.Core.Path.{sym, ◌∙◌}
use Rattle.std.proofs.Common.{rules}
use Rattle.model.specs.Pointer.{is_release}
use Rattle.pointer_events.specs.Events.{kind_of}
use Rattle.pointer_clicks.proofs.Ways.{could_moved, could_long, could_down, could_released}
use Rattle.pointer_clicks.proofs.could_any_button_be_click.Goals as goal

pub returns-then-moved : goal.returns-then-moved
returns-then-moved c ps = rw c.if-moved.true (could_moved _ _ _)

pub returns-then-press_too_long : goal.returns-then-press_too_long
returns-then-press_too_long c ps = could_long _ _ _ _ (sym c.press_too_long.ensures ∙ c.if-press_too_long.true)

pub returns-then-any_down : goal.returns-then-any_down
returns-then-any_down c ps =
    rw c.if-moved.false
    (could_down _ _ _ (sym c.press_too_long.ensures ∙ c.if-press_too_long.false) (sym c.any_down.ensures ∙ c.if-any_down.true))

pub returns : goal.returns
unfolding is_release kind_of
returns c ps =
    c.any.ensures is_release (λ e r p. search rules) ps
    ∙ rw c.if-moved.false
    (could_released _ _ _ (sym c.press_too_long.ensures ∙ c.if-press_too_long.false) (sym c.any_down.ensures ∙ c.if-any_down.false))
