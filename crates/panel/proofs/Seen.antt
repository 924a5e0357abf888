-- What an interact reads, field by field. Assumes nothing.
use mathlib.Core.Path.{◌≡◌, ◌∙◌, ap}
use mathlib.Core.Bool.{Bool, ◌&&◌}
use lib.Dec.{ltb}
use Rattle.model.specs.Pass.{Panel, decidedly_dragging}
use Rattle.model.specs.Pointer as Pointer
use Rattle.model.specs.Touch.{any_touches}
use Rattle.model.specs.Interact.{seen, long_press, could_click, has_pos}
use Rattle.model.specs.Questions.{bool}
use Rattle.interaction_state.specs.declared.state.Seen.{Seen}
use Rattle.interaction_events.specs.View.{seen_of}

pub same_bool : {a b : Bool} → bool a ≡ bool b → a ≡ b
same_bool h = cc

pub sees : (p : Panel) (v : Seen)
    → ltb 0 (p.keys.presses 4) ≡ v.escape_pressed
    → (any_touches p.touch_states && long_press p) ≡ v.is_long_touch
    → decidedly_dragging p.clock p.screen p.press ≡ v.is_decidedly_dragging
    → could_click p ≡ v.could_any_button_be_click
    → Pointer.any_down p.press.held.down ≡ v.any_down
    → has_pos p.place.latest_pos ≡ v.has_pointer
    → seen p ≡ seen_of v p.press.held.pointer_events
unfolding seen seen_of
sees p v a b c d e f = rw (a, b, c, d, e, f)

-- the pointer events as the lent arrays hold them
pub sees_events : (p : Panel) (v : Seen) (s : Pointer.Press) → p.press ≡ s → seen p ≡ seen_of v p.press.held.pointer_events → seen p ≡ seen_of v s.held.pointer_events
sees_events p v s e h = h ∙ ap (λ (t : Pointer.Press). seen_of v t.held.pointer_events) e
