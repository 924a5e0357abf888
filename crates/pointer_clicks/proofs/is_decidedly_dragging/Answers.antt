use mathlib.Core.Path.{sym, ◌∙◌}
use Rattle.pointer_clicks.proofs.Ways.{dragging_could, dragging_pressed, dragging_clicked, dragging_down, dragging_released}
use Rattle.model.specs.Pointer.{is_press, is_click, is_release}
use Rattle.std.proofs.Common.{rules}
use Rattle.pointer_events.specs.Events.{kind_of}
use Rattle.pointer_clicks.proofs.is_decidedly_dragging.Goals as goal

pub returns-then-could_any_button_be_click : goal.returns-then-could_any_button_be_click
returns-then-could_any_button_be_click c ps = dragging_could _ _ _ _ (sym (c.could_any_button_be_click.ensures ps) ∙ c.if-could_any_button_be_click.true)

pub returns-then-any : goal.returns-then-any
unfolding kind_of is_press is_click is_release
returns-then-any c ps = dragging_pressed _ _ _ _ (sym (c.any.ensures is_press (λ e r p. search rules) ps) ∙ c.if-any.true)

pub returns-then-any-2 : goal.returns-then-any-2
unfolding kind_of is_press is_click is_release
returns-then-any-2 c ps = dragging_clicked _ _ _ _ (sym (c.any-2.ensures is_click (λ e r p. search rules) ps) ∙ c.if-any-2.true)

pub returns-then-any_down : goal.returns-then-any_down
unfolding kind_of is_press is_click is_release
returns-then-any_down c ps =
    dragging_down _ _ _ _
    (sym (c.could_any_button_be_click.ensures ps) ∙ c.if-could_any_button_be_click.false)
    (sym (c.any.ensures is_press (λ e r p. search rules) ps) ∙ c.if-any.false)
    (sym (c.any-2.ensures is_click (λ e r p. search rules) ps) ∙ c.if-any-2.false)
    (sym c.any_down.ensures ∙ c.if-any_down.true)

pub returns : goal.returns
unfolding kind_of is_press is_click is_release
returns c ps =
    c.any-3.ensures is_release (λ e r p. search rules) ps
    ∙ dragging_released _ _ _ _
    (sym (c.could_any_button_be_click.ensures ps) ∙ c.if-could_any_button_be_click.false)
    (sym (c.any.ensures is_press (λ e r p. search rules) ps) ∙ c.if-any.false)
    (sym (c.any-2.ensures is_click (λ e r p. search rules) ps) ∙ c.if-any-2.false)
    (sym c.any_down.ensures ∙ c.if-any_down.false)
