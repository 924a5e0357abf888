use mathlib.Core.Path.{sym}
use Rattle.model.specs.Pass.{decidedly_dragging}
use Rattle.model.specs.Interact.{could_click}
use Rattle.model.specs.Questions.{ask, reply, shown}
use Rattle.panel.proofs.Seen.{same_bool, sees}
use Rattle.panel.proofs.interact.seen.Goals as goal

pub returns : goal.returns
unfolding ask reply shown could_click decidedly_dragging
returns c p h =
    sees p _ (rw h.keys_are (sym (c.key_pressed.ensures h.other_keys)))
    (same_bool (c.is_long_touch.ensures _ h.places p h.clock_is h.screen_is h.press_is h.started_is h.devices_are))
    (rw (h.clock_is, h.screen_is, h.press_is) (sym (c.is_decidedly_dragging.ensures h.places)))
    (rw (h.clock_is, h.screen_is, h.press_is) (sym (c.could_any_button_be_click.ensures h.places)))
    (rw h.press_is (sym c.any_down.ensures))
    (same_bool (c.has_pointer.ensures h.times h.positions (shown p) h.place_is))
