-- Group 2: what stands for a record gives it back, and every value in range stands for one. Assumes nothing.
use mathlib.Core.Path.{◌≡◌}
use Rattle.model.specs.Pass.{Screen}
use Rattle.image.specs.Codes.{El, In}
use Rattle.image_options.proofs.Trip.{boolean_back, boolean_forth, modifiers_again, modifiers_forth}
use Rattle.image_screen.specs.Screen.{screen_code, screen_el, screen_of}

pub screen_back : (s : Screen) → screen_of (screen_el s) ≡ s
screen_back s =
    rw (
      boolean_back s.focused,
      modifiers_again s.options.zoom_modifier,
      modifiers_again s.options.horizontal_scroll_modifier,
      modifiers_again s.options.vertical_scroll_modifier,
    )

pub screen_forth : (v : El screen_code) → In screen_code v → screen_el (screen_of v) ≡ v
screen_forth v h =
    let o = v.1.1.1 in
    let k = h.1.1.1 in
    rw (
      boolean_forth v.1.1.0 h.1.1.0,
      modifiers_forth o.1.1.1.1.1.0 k.1.1.1.1.1.0,
      modifiers_forth o.1.1.1.1.1.1.0 k.1.1.1.1.1.1.0,
      modifiers_forth o.1.1.1.1.1.1.1 k.1.1.1.1.1.1.1,
    )
